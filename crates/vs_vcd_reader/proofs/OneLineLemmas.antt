-- The lines of the layout hold no line feed.
use Rattle.std.proofs.Common.{◌≡◌, ℕ, zero, suc, ◌+◌, ◌-◌, ◌/◌, ◌%◌, ◌<◌, ◌^◌, true, inl, inr, Option, Some, None, List, [], ◌∷◌, ◌++◌, codes, decimal, length, map, reverse, refl, sym, ap, ◌∙◌, arith}
use Rattle.std.proofs.lemmas.Bool.{cases_lt, lt-ltb, le-ltb, cond-true, cond-false, false≢true, and_parts as and_true}
use Rattle.std.specs.Prelude.{nat_lt}
use Rattle.std.specs.Fmt.{signed_decimal}
use Rattle.std.specs.Int.{IsInRange}
use Rattle.std.specs.List.{list_all}
use Rattle.vs_design.specs.vs_logic4.specs.declared.digit.Digit.{Digit}
use Rattle.vs_design.specs.vs_logic4.specs.declared.digit.Digit.TheVariants.{Zero, One, X, Z}
use Rattle.vs_design.specs.declared.design.ScopeKind.{ScopeKind}
use Rattle.vs_design.specs.declared.design.ScopeKind.TheVariants.{Module, Begin}
use Rattle.vs_design.specs.declared.signal.Bounds.{Bounds}
use Rattle.vs_design.specs.declared.signal.SignalKind.{SignalKind}
use Rattle.vs_design.specs.declared.signal.SignalKind.TheVariants.{Wire, Reg, Integer}
use Rattle.vs_design.specs.declared.timescale.Magnitude.{Magnitude}
use Rattle.vs_design.specs.declared.timescale.Magnitude.TheVariants as magnitudes
use Rattle.vs_design.specs.declared.timescale.TimeSpan.{TimeSpan}
use Rattle.vs_design.specs.declared.timescale.TimeUnit.{TimeUnit}
use Rattle.vs_design.specs.declared.timescale.TimeUnit.TheVariants as units
use Rattle.vs_vcd_lines.specs.vs_vcd_writing.specs.Codes.{code, code_with_fuel}
use Rattle.vs_vcd_lines.specs.vs_vcd_writing.specs.Text.{magnitude_word, unit_word, span_text, kind_word, scope_word, range_text, scope_line}
use Rattle.vs_vcd_lines.specs.vs_vcd_writing.specs.Values.{digit_character, shortened, value_change}
use Rattle.vs_vcd_lines.specs.Cuts.{lacks}
use Rattle.vs_vcd_lines.specs.Lines.{span_line, IsRange}
use Rattle.vs_vcd_lines.specs.Names.{is_first, is_further, is_printable, is_simple, is_body, IsName, IsScopeName, IsTurn}
use Rattle.vs_vcd_lines.proofs.CutLemmas.{lacks_more, lacks_of_all, lacks-append}
use Rattle.vs_vcd_lines.proofs.NameLemmas.{lacks-decimal, lacks-signed_decimal}
use Rattle.vs_vcd_reader.specs.Plain.{PlainVariable}
use Rattle.vs_vcd_reader.specs.Layout.{variable_text, IsPlainVariable}
use Rattle.vs_vcd_reader.specs.Steps.{Item, Place, Step, line_of}
use Rattle.vs_vcd_reader.specs.Steps.{Step as s}

no_feed : IsInRange 48 57 10 → ⊥
no_feed h = omega (arith, h)

-- ---- names

first_is_no_feed : (b : ℕ) → is_first b ≡ true → b ≡ 10 → ⊥
first_is_no_feed b h e = false≢true (ap is_first (sym e) ∙ h)

simple_one_line : (name : List ℕ) → is_simple name ≡ true → lacks 10 name ≡ true
simple_one_line [] h = refl
simple_one_line (b ∷ bs) h =
    let parts = and_true (is_first b) (list_all is_further bs) h in
    lacks_more 10 b bs (first_is_no_feed b parts.0) (lacks_of_all is_further 10 bs refl parts.1)

body_one_line : (body : List ℕ) → is_body body ≡ true → lacks 10 body ≡ true
body_one_line [] h = refl
body_one_line (b ∷ bs) h = lacks_of_all is_printable 10 (b ∷ bs) refl h

name_one_line : (name : List ℕ) → IsName name → lacks 10 name ≡ true
name_one_line name (inl simple) = simple_one_line name simple
name_one_line name (inr escaped) =
    ap (lacks 10) escaped.is
    ∙ lacks-append 10 (codes "\\" ++ escaped.body) (codes " ") (lacks-append 10 (codes "\\") escaped.body refl (body_one_line escaped.body escaped.printable)) refl

turn_one_line : (name : List ℕ) → IsTurn name → lacks 10 name ≡ true
turn_one_line name t =
    let first = lacks-append 10 t.name (codes "[") (name_one_line t.name t.named) refl in
    let number = lacks-signed_decimal 10 t.value no_feed (λ e. absurd (omega (arith, e))) t.short in
    ap (lacks 10) t.is
    ∙ lacks-append 10 (t.name ++ codes "[" ++ signed_decimal t.value) (codes "]") (lacks-append 10 (t.name ++ codes "[") (signed_decimal t.value) first number) refl

scope_name_one_line : (kind : ScopeKind) (name : List ℕ) → IsScopeName kind name → lacks 10 name ≡ true
scope_name_one_line Module name h = name_one_line name h
scope_name_one_line Begin name (inl named) = name_one_line name named
scope_name_one_line Begin name (inr turn) = turn_one_line name turn

-- ---- words

scope_word_one_line : (kind : ScopeKind) → lacks 10 (scope_word kind) ≡ true
scope_word_one_line Module = refl
scope_word_one_line Begin = refl

kind_one_line : (kind : SignalKind) → lacks 10 (kind_word kind) ≡ true
kind_one_line Wire = refl
kind_one_line Reg = refl
kind_one_line Integer = refl

magnitude_one_line : (m : Magnitude) → lacks 10 (magnitude_word m) ≡ true
magnitude_one_line magnitudes.One = refl
magnitude_one_line magnitudes.Ten = refl
magnitude_one_line magnitudes.Hundred = refl

unit_one_line : (u : TimeUnit) → lacks 10 (unit_word u) ≡ true
unit_one_line units.Second = refl
unit_one_line units.Millisecond = refl
unit_one_line units.Microsecond = refl
unit_one_line units.Nanosecond = refl
unit_one_line units.Picosecond = refl
unit_one_line units.Femtosecond = refl

code_with_fuel_one_line : (f n : ℕ) → lacks 10 (code_with_fuel f n) ≡ true
code_with_fuel_one_line zero n = lacks_more 10 (33 + n % 94) [] (λ e. absurd (omega (arith, e))) refl
code_with_fuel_one_line (suc f) n =
    elim (cases_lt n 94) [
      | inl below ↦
          ap (lacks 10) (cond-true (nat_lt n 94) ((33 + n) ∷ []) ((33 + n % 94) ∷ code_with_fuel f (n / 94 - 1)) (lt-ltb n 94 below))
          ∙ lacks_more 10 (33 + n) [] (λ e. absurd (omega (arith, e))) refl
      | inr least ↦
          ap (lacks 10) (cond-false (nat_lt n 94) ((33 + n) ∷ []) ((33 + n % 94) ∷ code_with_fuel f (n / 94 - 1)) (le-ltb n 94 least))
          ∙ lacks_more 10 (33 + n % 94) (code_with_fuel f (n / 94 - 1)) (λ e. absurd (omega (arith, e))) (code_with_fuel_one_line f (n / 94 - 1))
    ]

code_one_line : (n : ℕ) → lacks 10 (code n) ≡ true
code_one_line n = code_with_fuel_one_line n n

range_one_line : (o : Option Bounds) → IsRange o → lacks 10 (range_text o) ≡ true
range_one_line None h = refl
range_one_line (Some b) h =
    let left = lacks-signed_decimal 10 b.left no_feed (λ e. absurd (omega (arith, e))) h.0 in
    let right = lacks-signed_decimal 10 b.right no_feed (λ e. absurd (omega (arith, e))) h.1 in
    let first = codes " [" ++ signed_decimal b.left in
    lacks-append 10 (first ++ codes ":" ++ signed_decimal b.right) (codes "]")
    (lacks-append 10 (first ++ codes ":") (signed_decimal b.right) (lacks-append 10 first (codes ":") (lacks-append 10 (codes " [") (signed_decimal b.left) refl left) refl) right)
    refl

-- ---- lines

span_one_line : (span : TimeSpan) → lacks 10 (span_line span) ≡ true
span_one_line span =
    let words = lacks-append 10 (magnitude_word span.magnitude ++ codes " ") (unit_word span.unit)
    (lacks-append 10 (magnitude_word span.magnitude) (codes " ") (magnitude_one_line span.magnitude) refl) (unit_one_line span.unit) in
    lacks-append 10 (codes "$timescale " ++ span_text span) (codes " $end") (lacks-append 10 (codes "$timescale ") (span_text span) refl words) refl

scope_one_line : (kind : ScopeKind) (name : List ℕ) → IsScopeName kind name → lacks 10 (scope_line kind name) ≡ true
scope_one_line kind name h =
    let first = codes "$scope " ++ scope_word kind in
    lacks-append 10 (first ++ codes " " ++ name) (codes " $end")
    (lacks-append 10 (first ++ codes " ") name
    (lacks-append 10 first (codes " ") (lacks-append 10 (codes "$scope ") (scope_word kind) refl (scope_word_one_line kind)) refl)
    (scope_name_one_line kind name h)) refl

variable_one_line : (v : PlainVariable) (n : ℕ) → IsPlainVariable v → lacks 10 (variable_text v n) ≡ true
variable_one_line v n h =
    let most = h.most in
    let s = codes " " in
    let a = codes "$var " ++ kind_word v.kind in
    let b = a ++ s ++ decimal v.width in
    let c = b ++ s ++ code n in
    let d = c ++ s ++ v.name in
    let e = d ++ range_text v.range in
    let la = lacks-append 10 (codes "$var ") (kind_word v.kind) refl (kind_one_line v.kind) in
    let lb = lacks-append 10 (a ++ s) (decimal v.width) (lacks-append 10 a s la refl) (lacks-decimal 10 v.width no_feed (omega (arith, most))) in
    let lc = lacks-append 10 (b ++ s) (code n) (lacks-append 10 b s lb refl) (code_one_line n) in
    let ld = lacks-append 10 (c ++ s) v.name (lacks-append 10 c s lc refl) (name_one_line v.name h.named) in
    let le = lacks-append 10 d (range_text v.range) ld (range_one_line v.range h.ranged) in
    lacks-append 10 e (codes " $end") le refl

time_one_line : (time : ℕ) → time < 2 ^ 64 → lacks 10 (35 ∷ decimal time) ≡ true
time_one_line time small = lacks_more 10 35 (decimal time) (λ e. absurd (omega (arith, e))) (lacks-decimal 10 time no_feed small)

character_one_line : (d : Digit) (bs : List ℕ) → lacks 10 bs ≡ true → lacks 10 (digit_character d ∷ bs) ≡ true
character_one_line Zero bs h = h
character_one_line One bs h = h
character_one_line X bs h = h
character_one_line Z bs h = h

digits_one_line : (ds : List Digit) → lacks 10 (map digit_character ds) ≡ true
digits_one_line [] = refl
digits_one_line (d ∷ ds) = character_one_line d (map digit_character ds) (digits_one_line ds)

vector_one_line : (ds : List Digit) (n : ℕ) → lacks 10 (codes "b" ++ map digit_character ds ++ codes " " ++ code n) ≡ true
vector_one_line ds n =
    lacks-append 10 (codes "b" ++ map digit_character ds ++ codes " ") (code n)
    (lacks-append 10 (codes "b" ++ map digit_character ds) (codes " ") (lacks-append 10 (codes "b") (map digit_character ds) refl (digits_one_line ds)) refl) (code_one_line n)

value_one_line : (v : List Digit) (n : ℕ) → lacks 10 (value_change v (code n)) ≡ true
value_one_line [] n = vector_one_line (shortened (reverse [])) n
value_one_line (d ∷ []) n = character_one_line d (code n) (code_one_line n)
value_one_line (d ∷ e ∷ ds) n = vector_one_line (shortened (reverse (d ∷ e ∷ ds))) n

pub step_one_line : (here : Place) (x : Item) (next : Place) → Step here x next → lacks 10 (line_of x) ≡ true
step_one_line _ _ _ (s.tick span) = span_one_line span
step_one_line _ _ _ (s.top name named) = scope_one_line Module name named
step_one_line _ _ _ (s.scope ws depth own kind name named) = scope_one_line kind name named
step_one_line _ _ _ (s.variable ws depth v is) = variable_one_line v (length ws) is
step_one_line _ _ _ (s.upscope ws depth own) = refl
step_one_line _ _ _ (s.definitions ws own) = refl
step_one_line _ _ _ (s.at_zero ws) = time_one_line 0 (omega arith)
step_one_line _ _ _ (s.values ws) = refl
step_one_line _ _ _ (s.value ws vs c numbered sized) = value_one_line c.value c.number
step_one_line _ _ _ (s.end ws vs full) = refl
step_one_line _ _ _ (s.time ws vs last from time after small) = time_one_line time small
step_one_line _ _ _ (s.change ws vs last from bare c least is) = value_one_line c.value c.number
