-- The lines of a value change dump hold no line feed.
use Rattle.std.proofs.Common.{◌≡◌, ℕ, zero, suc, ◌+◌, ◌-◌, ◌/◌, ◌%◌, ◌<◌, true, false, Option, Some, None, IfSome, List, [], ◌∷◌, ◌++◌, map, reverse, refl, ap, ◌∙◌, arith}
use Rattle.std.proofs.lemmas.Bool.{and_parts, and_from, not-true, not_from_false, ne_eqb, cond-false, cond_both}
use Rattle.std.proofs.lemmas.List.Folds.{list_all-append}
use Rattle.std.specs.Prelude.{ℤ, pos, negsuc, ◌==◌, not, nat_lt, codes, decimal, slice_get}
use Rattle.std.specs.List.{list_all, onto_first}
use Rattle.std.specs.Fmt.{digits, digits_onto, digit_glyph, signed_decimal}
use Rattle.vs_design.specs.vs_logic4.specs.declared.digit.Digit.{Digit}
use Rattle.vs_design.specs.vs_logic4.specs.declared.digit.Digit.TheVariants.{Zero, One, X, Z}
use Rattle.vs_design.specs.declared.signal.Signal.{Signal}
use Rattle.vs_design.specs.declared.timescale.Magnitude.{Magnitude}
use Rattle.vs_design.specs.declared.timescale.Magnitude.TheVariants as magnitudes
use Rattle.vs_design.specs.declared.timescale.TimeUnit.{TimeUnit}
use Rattle.vs_design.specs.declared.timescale.TimeUnit.TheVariants as units
use Rattle.vs_design.specs.declared.timescale.TimeSpan.{TimeSpan}
use Rattle.vs_design.specs.declared.signal.Bounds.{Bounds}
use Rattle.vs_design.specs.declared.signal.SignalKind.{SignalKind}
use Rattle.vs_design.specs.declared.signal.SignalKind.TheVariants.{Wire, Reg, Integer}
use Rattle.vs_design.specs.declared.design.ScopeKind.{ScopeKind}
use Rattle.vs_design.specs.declared.design.ScopeKind.TheVariants.{Module, Begin}
use Rattle.vs_design.specs.declared.design.Entry.{Entry}
use Rattle.vs_design.specs.declared.design.Entry.TheVariants.{Enter, Declare, Leave}
use Rattle.vs_design.specs.Parts.{Parts}
use Rattle.vs_design.specs.Stores.{Store}
use Rattle.vs_design.specs.Traces.{Slot}
use Rattle.vs_vcd_writing.specs.Codes.{code, code_with_fuel, shown, place_of}
use Rattle.vs_vcd_writing.specs.Values.{digit_character, shortened, value_change, shown_value}
use Rattle.vs_vcd_writing.specs.Text.{text_of, magnitude_word, unit_word, span_text, precision, scope_word, kind_word, scope_line, range_text, shape_text, declaration, declared, entry_lines, outline_lines, end_of_definitions, header_lines, time_line, coded_lines, change_line, value_line, value_lines, is_same, changed_line, change_lines, first_lines, timed, later_lines, lines_after, slots_lines, end_lines}
use Rattle.vs_design.specs.OneLine.{is_one_line, is_one_line_entry, HasNamesOfOneLine}
use Rattle.vs_vcd_writing.specs.Shown.{dump_lines}

-- ---- reading lines back

split_at_line : (l rest : List ℕ) → is_one_line l ≡ true → dump_lines (l ++ 10 ∷ rest) ≡ l ∷ dump_lines rest
split_at_line [] rest h = refl
split_at_line (c ∷ cs) rest h =
    let parts = and_parts (not (c == 10)) (is_one_line cs) h in
    let no : (c == 10) ≡ false = not-true (c == 10) parts.0 in
    cond-false (c == 10) ([] ∷ dump_lines (cs ++ 10 ∷ rest)) (onto_first c (dump_lines (cs ++ 10 ∷ rest))) no ∙ ap (onto_first c) (split_at_line cs rest parts.1)

-- the lines of a text of lines are those lines, and then nothing
pub dump_lines-text_of : (ls : List (List ℕ)) → list_all is_one_line ls ≡ true → dump_lines (text_of ls) ≡ ls ++ [] ∷ []
dump_lines-text_of [] h = refl
dump_lines-text_of (l ∷ ls) h =
    let parts = and_parts (is_one_line l) (list_all is_one_line ls) h in
    split_at_line l (text_of ls) parts.0 ∙ ap (λ x. l ∷ x) (dump_lines-text_of ls parts.1)

-- ---- bytes

one_line-append : (xs ys : List ℕ) → is_one_line xs ≡ true → is_one_line ys ≡ true → is_one_line (xs ++ ys) ≡ true
one_line-append xs ys p q = list_all-append (λ b. not (b == 10)) xs ys ∙ and_from (is_one_line xs) (is_one_line ys) p q

above : (c : ℕ) → 10 < c → not (c == 10) ≡ true
above c h = not_from_false (c == 10) (ne_eqb c 10 (λ e. omega arith))

one_line-cons : (c : ℕ) (cs : List ℕ) → 10 < c → is_one_line cs ≡ true → is_one_line (c ∷ cs) ≡ true
one_line-cons c cs h k = and_from (not (c == 10)) (is_one_line cs) (above c h) k

glyph-above : (d : ℕ) → 10 < digit_glyph false d
glyph-above d = cond_both (nat_lt d 10) (48 + d) (87 + d) (λ x. 10 < x) (λ e. omega arith) (λ e. omega arith)

digits_onto_one_line : (k n : ℕ) (acc : List ℕ) → is_one_line acc ≡ true → is_one_line (digits_onto k 10 false n acc) ≡ true
digits_onto_one_line zero n acc h = h
digits_onto_one_line (suc k) n acc h =
    let more = one_line-cons (digit_glyph false (n % 10)) acc (glyph-above (n % 10)) h in
    cond_both (n / 10 == 0) (digit_glyph false (n % 10) ∷ acc) (digits_onto k 10 false (n / 10) (digit_glyph false (n % 10) ∷ acc)) (λ x. is_one_line x ≡ true)
    (λ e. more) (λ e. digits_onto_one_line k (n / 10) (digit_glyph false (n % 10) ∷ acc) more)

decimal_one_line : (n : ℕ) → is_one_line (decimal n) ≡ true
unfolding digits
decimal_one_line n = digits_onto_one_line 64 n [] refl

signed_one_line : (z : ℤ) → is_one_line (signed_decimal z) ≡ true
signed_one_line (pos n) = decimal_one_line n
signed_one_line (negsuc n) = one_line-cons 45 (decimal (suc n)) (omega arith) (decimal_one_line (suc n))

code_with_fuel_one_line : (f n : ℕ) → is_one_line (code_with_fuel f n) ≡ true
code_with_fuel_one_line zero n = one_line-cons (33 + n % 94) [] (omega arith) refl
code_with_fuel_one_line (suc f) n =
    cond_both (nat_lt n 94) ((33 + n) ∷ []) ((33 + n % 94) ∷ code_with_fuel f (n / 94 - 1)) (λ x. is_one_line x ≡ true)
    (λ e. one_line-cons (33 + n) [] (omega arith) refl) (λ e. one_line-cons (33 + n % 94) (code_with_fuel f (n / 94 - 1)) (omega arith) (code_with_fuel_one_line f (n / 94 - 1)))

code_one_line : (n : ℕ) → is_one_line (code n) ≡ true
code_one_line n = code_with_fuel_one_line n n

character-above : (d : Digit) → 10 < digit_character d
character-above Zero = omega arith
character-above One = omega arith
character-above X = omega arith
character-above Z = omega arith

digits_one_line : (ds : List Digit) → is_one_line (map digit_character ds) ≡ true
digits_one_line [] = refl
digits_one_line (d ∷ ds) = one_line-cons (digit_character d) (map digit_character ds) (character-above d) (digits_one_line ds)

vector_one_line : (ds : List Digit) (n : ℕ) → is_one_line (codes "b" ++ map digit_character ds ++ codes " " ++ code n) ≡ true
vector_one_line ds n =
    one_line-append (codes "b" ++ map digit_character ds ++ codes " ") (code n)
    (one_line-append (codes "b" ++ map digit_character ds) (codes " ") (one_line-append (codes "b") (map digit_character ds) refl (digits_one_line ds)) refl) (code_one_line n)

value_one_line : (v : List Digit) (n : ℕ) → is_one_line (value_change v (code n)) ≡ true
value_one_line [] n = vector_one_line (shortened (reverse [])) n
value_one_line (d ∷ []) n = one_line-cons (digit_character d) (code n) (character-above d) (code_one_line n)
value_one_line (d ∷ e ∷ ds) n = vector_one_line (shortened (reverse (d ∷ e ∷ ds))) n

-- ---- the lines of a dump

abbrev AllOneLine : List (List ℕ) → Type 0
AllOneLine ls = list_all is_one_line ls ≡ true

pub all-append : (xs ys : List (List ℕ)) → list_all is_one_line xs ≡ true → list_all is_one_line ys ≡ true → list_all is_one_line (xs ++ ys) ≡ true
all-append xs ys p q = list_all-append is_one_line xs ys ∙ and_from (list_all is_one_line xs) (list_all is_one_line ys) p q

all-cons : (l : List ℕ) (ls : List (List ℕ)) → is_one_line l ≡ true → AllOneLine ls → AllOneLine (l ∷ ls)
all-cons l ls p q = and_from (is_one_line l) (list_all is_one_line ls) p q

word_one_line : (k : ScopeKind) → is_one_line (scope_word k) ≡ true
word_one_line Module = refl
word_one_line Begin = refl

kind_one_line : (k : SignalKind) → is_one_line (kind_word k) ≡ true
kind_one_line Wire = refl
kind_one_line Reg = refl
kind_one_line Integer = refl

scope_one_line : (k : ScopeKind) (name : List ℕ) → is_one_line name ≡ true → is_one_line (scope_line k name) ≡ true
scope_one_line k name h =
    one_line-append (codes "$scope " ++ scope_word k ++ codes " " ++ name) (codes " $end")
    (one_line-append (codes "$scope " ++ scope_word k ++ codes " ") name
    (one_line-append (codes "$scope " ++ scope_word k) (codes " ") (one_line-append (codes "$scope ") (scope_word k) refl (word_one_line k)) refl) h) refl

magnitude_one_line : (m : Magnitude) → is_one_line (magnitude_word m) ≡ true
magnitude_one_line magnitudes.One = refl
magnitude_one_line magnitudes.Ten = refl
magnitude_one_line magnitudes.Hundred = refl

unit_one_line : (u : TimeUnit) → is_one_line (unit_word u) ≡ true
unit_one_line units.Second = refl
unit_one_line units.Millisecond = refl
unit_one_line units.Microsecond = refl
unit_one_line units.Nanosecond = refl
unit_one_line units.Picosecond = refl
unit_one_line units.Femtosecond = refl

span_one_line : (s : TimeSpan) → is_one_line (span_text s) ≡ true
span_one_line s =
    one_line-append (magnitude_word s.magnitude ++ codes " ") (unit_word s.unit)
    (one_line-append (magnitude_word s.magnitude) (codes " ") (magnitude_one_line s.magnitude) refl) (unit_one_line s.unit)

range_one_line : (o : Option Bounds) → is_one_line (range_text o) ≡ true
range_one_line None = refl
range_one_line (Some r) =
    let a = codes " [" ++ signed_decimal r.left in
    let b = a ++ codes ":" in
    let c = b ++ signed_decimal r.right in
    let pa = one_line-append (codes " [") (signed_decimal r.left) refl (signed_one_line r.left) in
    let pc = one_line-append b (signed_decimal r.right) (one_line-append a (codes ":") pa refl) (signed_one_line r.right) in
    one_line-append c (codes "]") pc refl

shape_one_line : (s : Signal) → is_one_line (shape_text s) ≡ true
shape_one_line s =
    one_line-append (kind_word s.kind ++ codes " ") (decimal s.width)
    (one_line-append (kind_word s.kind) (codes " ") (kind_one_line s.kind) refl) (decimal_one_line s.width)

declaration_one_line : (s : Signal) (n : ℕ) → is_one_line s.name.items ≡ true → is_one_line (declaration s n) ≡ true
declaration_one_line s n h =
    let a = codes "$var " ++ shape_text s in
    let b = a ++ codes " " ++ code n in
    let c = b ++ codes " " ++ s.name.items in
    let d = c ++ range_text s.range in
    let pa = one_line-append (codes "$var ") (shape_text s) refl (shape_one_line s) in
    let pb = one_line-append (a ++ codes " ") (code n) (one_line-append a (codes " ") pa refl) (code_one_line n) in
    let pc = one_line-append (b ++ codes " ") s.name.items (one_line-append b (codes " ") pb refl) h in
    let pd = one_line-append c (range_text s.range) pc (range_one_line s.range) in
    one_line-append d (codes " $end") pd refl

declared_one_line : (o : Option Signal) (n : Option ℕ) → IfSome o (λ s. is_one_line s.name.items ≡ true) → AllOneLine (declared o n)
declared_one_line None n h = refl
declared_one_line (Some s) None h = refl
declared_one_line (Some s) (Some n) h = all-cons (declaration s n) [] (declaration_one_line s n h) refl

names_at : (signals : List Signal) (i : ℕ) → list_all (λ (s : Signal). is_one_line s.name.items) signals ≡ true → IfSome (slice_get signals i) (λ s. is_one_line s.name.items ≡ true)
names_at [] i h = tt
names_at (s ∷ ss) zero h = (and_parts (is_one_line s.name.items) (list_all (λ (s : Signal). is_one_line s.name.items) ss) h).0
names_at (s ∷ ss) (suc i) h = names_at ss i (and_parts (is_one_line s.name.items) (list_all (λ (s : Signal). is_one_line s.name.items) ss) h).1

entry_one_line : (d : Parts) (e : Entry) → list_all (λ (s : Signal). is_one_line s.name.items) d.signals ≡ true → is_one_line_entry e ≡ true → AllOneLine (entry_lines d e)
entry_one_line d (Enter k name) h n = all-cons (scope_line k name.items) [] (scope_one_line k name.items n) refl
entry_one_line d (Declare i) h n = declared_one_line (slice_get d.signals i) (place_of (shown d) i) (names_at d.signals i h)
entry_one_line d Leave h n = refl

outline_one_line : (d : Parts) (es : List Entry) → list_all (λ (s : Signal). is_one_line s.name.items) d.signals ≡ true → list_all is_one_line_entry es ≡ true → AllOneLine (outline_lines d es)
outline_one_line d [] h n = refl
outline_one_line d (e ∷ es) h n =
    let parts = and_parts (is_one_line_entry e) (list_all is_one_line_entry es) n in
    all-append (entry_lines d e) (outline_lines d es) (entry_one_line d e h parts.0) (outline_one_line d es h parts.1)

pub header_one_line : (d : Parts) → HasNamesOfOneLine d → list_all is_one_line (header_lines d) ≡ true
header_one_line d h =
    let first = codes "$timescale " ++ precision d ++ codes " $end" in
    let plain = one_line-append (codes "$timescale " ++ precision d) (codes " $end")
    (one_line-append (codes "$timescale ") (precision d) refl (span_one_line d.timescale.precision)) refl in
    all-append (first ∷ outline_lines d d.outline) (end_of_definitions ∷ [])
    (all-cons first (outline_lines d d.outline) plain (outline_one_line d d.outline h.signals h.scopes)) refl

time_one_line : (t : ℕ) → is_one_line (time_line t) ≡ true
time_one_line t = one_line-cons 35 (decimal t) (omega arith) (decimal_one_line t)

coded_one_line : (lines : ℕ → ℕ → List (List ℕ)) (n : ℕ) (ss : List ℕ) → ((m s : ℕ) → AllOneLine (lines m s)) → AllOneLine (coded_lines lines n ss)
coded_one_line lines n [] h = refl
coded_one_line lines n (s ∷ ss) h = all-append (lines n s) (coded_lines lines (suc n) ss) (h n s) (coded_one_line lines (suc n) ss h)

change_one_line : (store : Store) (n s : ℕ) → AllOneLine (change_line store n s ∷ [])
change_one_line store n s = all-cons (change_line store n s) [] (value_one_line (shown_value store s) n) refl

values_one_line : (store : Store) (ss : List ℕ) → AllOneLine (value_lines store ss)
values_one_line store ss = coded_one_line (value_line store) 0 ss (change_one_line store)

changes_one_line : (before after : Store) (ss : List ℕ) → AllOneLine (change_lines before after ss)
changes_one_line before after ss =
    coded_one_line (changed_line before after) 0 ss
    (λ n s. cond_both (is_same before after s) [] (change_line after n s ∷ []) (λ ls. list_all is_one_line ls ≡ true) (λ e. refl) (λ e. change_one_line after n s))

timed_one_line : (t : ℕ) (ls : List (List ℕ)) → AllOneLine ls → AllOneLine (timed t ls)
timed_one_line t [] h = refl
timed_one_line t (l ∷ ls) h = all-cons (time_line t) (l ∷ ls) (time_one_line t) h

after_one_line : (signals : List ℕ) (before : Store) (ss : List Slot) → AllOneLine (lines_after signals before ss)
after_one_line signals before [] = refl
after_one_line signals before (s ∷ ss) =
    all-append (later_lines signals before s.time s.store) (lines_after signals s.store ss)
    (timed_one_line s.time (change_lines before s.store signals) (changes_one_line before s.store signals)) (after_one_line signals s.store ss)

pub slots_one_line : (signals : List ℕ) (ss : List Slot) → list_all is_one_line (slots_lines signals ss) ≡ true
slots_one_line signals [] = refl
slots_one_line signals (s ∷ ss) =
    let values = value_lines s.store signals in
    all-append (first_lines signals s.time s.store) (lines_after signals s.store ss)
    (all-append (time_line s.time ∷ codes "$dumpvars" ∷ values) (codes "$end" ∷ [])
    (all-cons (time_line s.time) (codes "$dumpvars" ∷ values) (time_one_line s.time) (all-cons (codes "$dumpvars") values refl (values_one_line s.store signals))) refl)
    (after_one_line signals s.store ss)

pub end_one_line : (o : Option ℕ) (t : ℕ) → list_all is_one_line (end_lines o t) ≡ true
end_one_line None t = all-cons (time_line t) [] (time_one_line t) refl
end_one_line (Some last) t =
    cond_both (last == t) [] (time_line t ∷ []) (λ ls. list_all is_one_line ls ≡ true) (λ e. refl) (λ e. all-cons (time_line t) [] (time_one_line t) refl)
