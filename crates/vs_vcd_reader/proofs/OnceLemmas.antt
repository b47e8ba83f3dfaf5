-- At one place a line says one thing, and leads to one place.
use Rattle.std.proofs.Common.{◌≡◌, ℕ, suc, ◌<◌, ◌^◌, true, false, cond, eqb, Option, Some, List, [], ◌∷◌, ◌++◌, codes, decimal, get_or, length, map, reverse, refl, sym, ap, ◌∙◌, append_assoc, arith}
use Rattle.std.specs.Prelude.{slice_get}
use Rattle.std.proofs.lemmas.Fmt.{decimal_injective}
use Rattle.std.proofs.lemmas.List.{append_cancel_right, append_cancel_left}
use Rattle.vs_design.specs.vs_logic4.specs.declared.digit.Digit.{Digit}
use Rattle.vs_design.specs.vs_logic4.specs.declared.digit.Digit.TheVariants.{Zero, One, X, Z}
use Rattle.vs_design.specs.declared.design.ScopeKind.{ScopeKind}
use Rattle.vs_design.specs.declared.design.ScopeKind.TheVariants.{Module, Begin}
use Rattle.vs_design.specs.declared.signal.Bounds.{Bounds}
use Rattle.vs_design.specs.declared.signal.SignalKind.{SignalKind}
use Rattle.vs_design.specs.declared.timescale.Magnitude.{Magnitude}
use Rattle.vs_design.specs.declared.timescale.Magnitude.TheVariants as magnitudes
use Rattle.vs_design.specs.declared.timescale.TimeSpan.{TimeSpan}
use Rattle.vs_design.specs.declared.timescale.TimeUnit.{TimeUnit}
use Rattle.vs_design.specs.declared.timescale.TimeUnit.TheVariants as units
use Rattle.vs_vcd_lines.specs.vs_vcd_writing.specs.Codes.{code}
use Rattle.vs_vcd_lines.specs.vs_vcd_writing.specs.Text.{magnitude_word, unit_word, kind_word, scope_word, range_text, scope_line, time_line}
use Rattle.vs_vcd_lines.specs.vs_vcd_writing.specs.Values.{digit_character, shortened, value_change}
use Rattle.vs_vcd_lines.specs.vs_vcd_writing.proofs.CodeLemmas.{code-injective}
use Rattle.vs_vcd_lines.specs.declared.dump.ValueChange.{ValueChange}
use Rattle.vs_vcd_lines.specs.Lines.{span_line, change_line, IsSized}
use Rattle.vs_vcd_lines.specs.Parts.{IsShape}
use Rattle.vs_vcd_lines.proofs.ChangeLemmas.{wide_text}
use Rattle.vs_vcd_lines.proofs.CutLemmas.{cut_once}
use Rattle.vs_vcd_lines.proofs.LawLemmas.{kind_once, named_once}
use Rattle.vs_vcd_lines.proofs.LineLemmas.{scope_assoc}
use Rattle.vs_vcd_lines.proofs.ValueLemmas.{spelled_once, character_once}
use Rattle.vs_vcd_lines.proofs.VariableLemmas.{line_assoc, shape_parts, shape_three}
use Rattle.vs_vcd_lines.proofs.WordLemmas.{scope_lacks, magnitude_lacks}
use Rattle.vs_vcd_lines.proofs.BeginningsValueLemmas.{characters_lack, values_once}
use Rattle.vs_vcd_reader.specs.Plain.{PlainVariable}
use Rattle.vs_vcd_reader.specs.Layout.{variable_text, with_change, IsPlainVariable}
use Rattle.vs_vcd_reader.specs.Steps.{Item, Place, Step, line_of}
use Rattle.vs_vcd_reader.specs.Steps.{Item as i, Place as p, Step as s}

-- ---- ticks

abbrev magnitude_by : List ℕ → Magnitude
magnitude_by [] = magnitudes.One
magnitude_by (a ∷ []) = magnitudes.One
magnitude_by (a ∷ b ∷ []) = magnitudes.Ten
magnitude_by (a ∷ b ∷ c ∷ bs) = magnitudes.Hundred

magnitude_back : (m : Magnitude) → magnitude_by (magnitude_word m) ≡ m
magnitude_back magnitudes.One = refl
magnitude_back magnitudes.Ten = refl
magnitude_back magnitudes.Hundred = refl

abbrev unit_by : List ℕ → TimeUnit
unit_by [] = units.Second
unit_by (b ∷ bs) =
    cond (eqb b 115) units.Second
    (cond (eqb b 109) units.Millisecond
    (cond (eqb b 117) units.Microsecond (cond (eqb b 110) units.Nanosecond (cond (eqb b 112) units.Picosecond units.Femtosecond))))

unit_back : (u : TimeUnit) → unit_by (unit_word u) ≡ u
unit_back units.Second = refl
unit_back units.Millisecond = refl
unit_back units.Microsecond = refl
unit_back units.Nanosecond = refl
unit_back units.Picosecond = refl
unit_back units.Femtosecond = refl

span_once : (a b : TimeSpan) → span_line a ≡ span_line b → a ≡ b
span_once a b e =
    let inner = append_cancel_left (codes "$timescale ") (magnitude_word a.magnitude ++ codes " " ++ unit_word a.unit) (magnitude_word b.magnitude ++ codes " " ++ unit_word b.unit)
    (append_cancel_right _ _ (codes " $end") e) in
    let parts = cut_once 32 (magnitude_word a.magnitude) (magnitude_word b.magnitude) (unit_word a.unit) (unit_word b.unit) (magnitude_lacks a.magnitude)
    (magnitude_lacks b.magnitude)
    (sym (append_assoc (magnitude_word a.magnitude) (codes " ") (unit_word a.unit)) ∙ inner ∙ append_assoc (magnitude_word b.magnitude) (codes " ") (unit_word b.unit)) in
    let m : a.magnitude ≡ b.magnitude = sym (magnitude_back a.magnitude) ∙ ap magnitude_by parts.0 ∙ magnitude_back b.magnitude in
    let u : a.unit ≡ b.unit = sym (unit_back a.unit) ∙ ap unit_by parts.1 ∙ unit_back b.unit in
    let made : Magnitude → TimeUnit → TimeSpan = λ x y. record { magnitude = x; unit = y } in
    ap (λ x. made x a.unit) m ∙ ap (made b.magnitude) u

-- ---- scopes

abbrev scope_by : List ℕ → ScopeKind
scope_by [] = Module
scope_by (b ∷ bs) = cond (eqb b 109) Module Begin

scope_back : (k : ScopeKind) → scope_by (scope_word k) ≡ k
scope_back Module = refl
scope_back Begin = refl

pub scope_once : (a b : ScopeKind) (m n : List ℕ) → scope_line a m ≡ scope_line b n → (a ≡ b) × (m ≡ n)
scope_once a b m n e =
    let whole = sym (scope_assoc (codes "$scope ") (scope_word a) m (codes " $end")) ∙ e ∙ scope_assoc (codes "$scope ") (scope_word b) n (codes " $end") in
    let inner = append_cancel_left (codes "$scope ") (scope_word a ++ (32 ∷ m)) (scope_word b ++ (32 ∷ n)) (append_cancel_right _ _ (codes " $end") whole) in
    let parts = cut_once 32 (scope_word a) (scope_word b) m n (scope_lacks a) (scope_lacks b) inner in
    (sym (scope_back a) ∙ ap scope_by parts.0 ∙ scope_back b, parts.1)

-- ---- variables

abbrev rest_of_variable : PlainVariable → List ℕ
rest_of_variable v = v.name ++ range_text v.range ++ codes " $end"

plain_shape : (line : List ℕ) (number : ℕ) (v : PlainVariable) → IsPlainVariable v → line ≡ variable_text v number
    → IsShape line number v.kind v.width (rest_of_variable v)
plain_shape line number v h is = record {
  some = h.some;
  most = h.most;
  is = is ∙ line_assoc (codes "$var ") (kind_word v.kind) (decimal v.width) (code number) v.name (range_text v.range) (codes " $end");
}

abbrev made_of : SignalKind → ℕ → List ℕ → Option Bounds → PlainVariable
made_of kind width name range = record { kind = kind; width = width; name = name; range = range }

variable_once : (v w : PlainVariable) (m n : ℕ) → IsPlainVariable v → IsPlainVariable w → variable_text v m ≡ variable_text w n → (v ≡ w) × (m ≡ n)
variable_once v w m n h k e =
    let line = variable_text v m in
    let s = plain_shape line m v h refl in
    let t = plain_shape line n w k e in
    let words = kind_word v.kind ++ (32 ∷ (decimal v.width ++ (32 ∷ (code m ++ (32 ∷ rest_of_variable v))))) in
    let parts = shape_parts line words (kind_word v.kind) (decimal v.width) (code m) (rest_of_variable v) n w.kind w.width (rest_of_variable w) s.is
    (shape_three line words m v.kind v.width (rest_of_variable v) s.is s) t in
    let vm = h.most in
    let wm = k.most in
    let rest = named_once v.name w.name v.range w.range h.named k.named h.ranged k.ranged
    (append_cancel_right (v.name ++ range_text v.range) (w.name ++ range_text w.range) (codes " $end") parts.3) in
    let kind = kind_once v.kind w.kind parts.0 in
    let width = decimal_injective v.width w.width (omega (arith, vm)) (omega (arith, wm)) parts.1 in
    let a : v ≡ made_of w.kind v.width v.name v.range = ap (λ x. made_of x v.width v.name v.range) kind in
    let b : made_of w.kind v.width v.name v.range ≡ made_of w.kind w.width v.name v.range = ap (λ x. made_of w.kind x v.name v.range) width in
    let c : made_of w.kind w.width v.name v.range ≡ made_of w.kind w.width w.name v.range = ap (λ x. made_of w.kind w.width x v.range) rest.0 in
    let d : made_of w.kind w.width w.name v.range ≡ w = ap (λ x. made_of w.kind w.width w.name x) rest.1 in
    (a ∙ b ∙ c ∙ d, code-injective m n parts.2)

-- ---- values

no_character : (d : Digit) (b : ℕ) → 97 < b → b < 120 → digit_character d ≡ b → ⊥
no_character Zero b least most h = omega (arith, least, h)
no_character One b least most h = omega (arith, least, h)
no_character X b least most h = omega (arith, most, h)
no_character Z b least most h = omega (arith, most, h)

-- a value of other than one digit, as its line has it
abbrev wide_form : List Digit → List ℕ → List ℕ
wide_form v c = 98 ∷ (map digit_character (shortened (reverse v)) ++ (32 ∷ c))

wide_once : (v w : List Digit) (m n : ℕ) → wide_form v (code m) ≡ wide_form w (code n) → (m ≡ n) × (length v ≡ length w → v ≡ w)
wide_once v w m n e =
    let tails : map digit_character (shortened (reverse v)) ++ (32 ∷ code m) ≡ map digit_character (shortened (reverse w)) ++ (32 ∷ code n) = cc in
    let parts = cut_once 32 (map digit_character (shortened (reverse v))) (map digit_character (shortened (reverse w))) (code m) (code n)
    (characters_lack (shortened (reverse v))) (characters_lack (shortened (reverse w))) tails in
    let short = spelled_once (shortened (reverse v)) (shortened (reverse w)) parts.0 in (
      code-injective m n parts.1,
      λ size. values_once v w short size,
    )

two_digits : (d e : Digit) (ds : List Digit) (c : List ℕ) → value_change (d ∷ e ∷ ds) c ≡ wide_form (d ∷ e ∷ ds) c
two_digits d e ds c = wide_text (d ∷ e ∷ ds) c (omega arith)

narrow_no_wide : (d : Digit) (bs cs : List ℕ) → digit_character d ∷ bs ≡ 98 ∷ cs → ⊥
narrow_no_wide d bs cs e = no_character d 98 (omega arith) (omega arith) (ap (λ l. get_or l 0 0) e)

value_once : (v w : List Digit) (m n : ℕ) → value_change v (code m) ≡ value_change w (code n) → (m ≡ n) × (length v ≡ length w → v ≡ w)
value_once [] [] m n e = wide_once [] [] m n e
value_once [] (b ∷ []) m n e = absurd (narrow_no_wide b (code n) (32 ∷ code m) (sym e))
value_once [] (b ∷ c ∷ bs) m n e = wide_once [] (b ∷ c ∷ bs) m n (e ∙ two_digits b c bs (code n))
value_once (a ∷ []) [] m n e = absurd (narrow_no_wide a (code m) (32 ∷ code n) e)
value_once (a ∷ []) (b ∷ []) m n e =
    let first : digit_character a ≡ digit_character b = ap (λ l. get_or l 0 0) e in
    let rest : code m ≡ code n = cc in
    (code-injective m n rest, λ size. ap (λ x. x ∷ []) (character_once a b first))
value_once (a ∷ []) (b ∷ c ∷ bs) m n e = absurd (narrow_no_wide a (code m) _ (e ∙ two_digits b c bs (code n)))
value_once (a ∷ c ∷ cs) [] m n e = wide_once (a ∷ c ∷ cs) [] m n (sym (two_digits a c cs (code m)) ∙ e)
value_once (a ∷ c ∷ cs) (b ∷ []) m n e = absurd (narrow_no_wide b (code n) _ (sym e ∙ two_digits a c cs (code m)))
value_once (a ∷ c ∷ cs) (b ∷ d ∷ bs) m n e =
    wide_once (a ∷ c ∷ cs) (b ∷ d ∷ bs) m n (sym (two_digits a c cs (code m)) ∙ e ∙ two_digits b d bs (code n))

pub change_once : (ws : List ℕ) (a b : ValueChange) → IsSized ws a → IsSized ws b → change_line a ≡ change_line b → a ≡ b
change_once ws a b h k e =
    let parts = value_once a.value b.value a.number b.number e in
    let sizes : Some (length a.value) ≡ Some (length b.value) = sym h ∙ ap (slice_get ws) parts.0 ∙ k in
    let size : length a.value ≡ length b.value = cc in
    let made : ℕ → List Digit → ValueChange = λ x y. record { number = x; value = y } in
    ap (λ x. made x a.value) parts.0 ∙ ap (made b.number) (parts.1 size)

change_first : (v : List Digit) (c : List ℕ) (b : ℕ) (bs : List ℕ) → value_change v c ≡ b ∷ bs → b < 48 → ⊥
change_first [] c b bs e low = let h = ap (λ l. get_or l 0 0) e in omega (arith, h, low)
change_first (Zero ∷ []) c b bs e low = let h = ap (λ l. get_or l 0 0) e in omega (arith, h, low)
change_first (One ∷ []) c b bs e low = let h = ap (λ l. get_or l 0 0) e in omega (arith, h, low)
change_first (X ∷ []) c b bs e low = let h = ap (λ l. get_or l 0 0) e in omega (arith, h, low)
change_first (Z ∷ []) c b bs e low = let h = ap (λ l. get_or l 0 0) e in omega (arith, h, low)
change_first (d ∷ e ∷ ds) c b bs h low = let k = ap (λ l. get_or l 0 0) (sym (two_digits d e ds c) ∙ h) in omega (arith, k, low)

-- no change begins with `#` or `$`
pub change_begins : (c : ValueChange) (b : ℕ) (bs : List ℕ) → b < 48 → change_line c ≡ b ∷ bs → ⊥
change_begins c b bs low e = change_first c.value (code c.number) b bs e low

-- ---- lines

pub other_letter : (a b : List ℕ) → a ≡ b → (get_or a 1 0 ≡ get_or b 1 0 → ⊥) → ⊥
other_letter a b e differ = differ (ap (λ l. get_or l 1 0) e)

time_once : (a b : ℕ) → a < 2 ^ 64 → b < 2 ^ 64 → time_line a ≡ time_line b → a ≡ b
time_once a b h k e = let rest : decimal a ≡ decimal b = cc in decimal_injective a b h k rest

abbrev Same : Item → Item → Place → Place → Type 0
Same x y q r = (x ≡ y) × (q ≡ r)

pub step_once : (here : Place) (x y : Item) (q r : Place) → Step here x q → Step here y r → line_of x ≡ line_of y → Same x y q r
step_once _ _ _ _ _ (s.tick a) (s.tick b) e = (ap i.Tick (span_once a b e), refl)
step_once _ _ _ _ _ (s.top m _) (s.top n _) e = (ap (i.Scope Module) (scope_once Module Module m n e).1, refl)
step_once _ _ _ _ _ (s.scope ws depth own a m _) (s.scope _ _ _ b n _) e =
    let parts = scope_once a b m n e in (ap (λ x. i.Scope x m) parts.0 ∙ ap (i.Scope b) parts.1, refl)
step_once _ _ _ _ _ (s.scope ws depth own a m _) (s.variable _ _ v _) e = absurd (other_letter _ _ e (λ h. omega (arith, h)))
step_once _ _ _ _ _ (s.scope ws depth own a m _) (s.upscope _ _ _) e = absurd (other_letter _ _ e (λ h. omega (arith, h)))
step_once _ _ _ _ _ (s.variable ws depth v _) (s.scope _ _ _ b n _) e = absurd (other_letter _ _ e (λ h. omega (arith, h)))
step_once _ _ _ _ _ (s.variable ws depth v h) (s.variable _ _ w k) e =
    let same = (variable_once v w (length ws) (length ws) h k e).0 in
    (ap (λ x. i.Variable x (length ws)) same, ap (λ (x : PlainVariable). p.Header (ws ++ x.width ∷ []) (suc depth) true) same)
step_once _ _ _ _ _ (s.variable ws depth v _) (s.upscope _ _ _) e = absurd (other_letter _ _ e (λ h. omega (arith, h)))
step_once _ _ _ _ _ (s.upscope ws depth own) (s.scope _ _ _ b n _) e = absurd (other_letter _ _ e (λ h. omega (arith, h)))
step_once _ _ _ _ _ (s.upscope ws depth own) (s.variable _ _ v _) e = absurd (other_letter _ _ e (λ h. omega (arith, h)))
step_once _ _ _ _ _ (s.upscope ws depth own) (s.upscope _ _ _) e = (refl, refl)
step_once _ _ _ _ _ (s.definitions ws own) (s.definitions _ _) e = (refl, refl)
step_once _ _ _ _ _ (s.at_zero ws) (s.at_zero _) e = (refl, refl)
step_once _ _ _ _ _ (s.values ws) (s.values _) e = (refl, refl)
step_once _ _ _ _ _ (s.value ws vs a _ h) (s.value _ _ b _ k) e =
    let same = change_once ws a b h k e in (ap i.Change same, ap (λ (x : ValueChange). p.Values ws (vs ++ x.value ∷ [])) same)
step_once _ _ _ _ _ (s.value ws vs a _ _) (s.end _ _ _) e = absurd (change_begins a 36 (codes "end") (omega arith) e)
step_once _ _ _ _ _ (s.end ws vs _) (s.value _ _ b _ _) e = absurd (change_begins b 36 (codes "end") (omega arith) (sym e))
step_once _ _ _ _ _ (s.end ws vs _) (s.end _ _ _) e = (refl, refl)
step_once _ _ _ _ _ (s.time ws vs last from a _ h) (s.time _ _ _ _ b _ k) e =
    let same = time_once a b h k e in (ap i.Time same, ap (λ t. p.Later ws vs t 0 true) same)
step_once _ _ _ _ _ (s.time ws vs last from a _ _) (s.change _ _ _ _ _ b _ _) e = absurd (change_begins b 35 (decimal a) (omega arith) (sym e))
step_once _ _ _ _ _ (s.change ws vs last from bare a _ _) (s.time _ _ _ _ b _ _) e = absurd (change_begins a 35 (decimal b) (omega arith) e)
step_once _ _ _ _ _ (s.change ws vs last from bare a _ h) (s.change _ _ _ _ _ b _ k) e =
    let same = change_once ws a b h.sized k.sized e in
    (ap i.Change same, ap (λ (x : ValueChange). p.Later ws (with_change vs x) last (suc x.number) false) same)
