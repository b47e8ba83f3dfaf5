-- The lines of changes.
use Rattle.std.proofs.Common.{◌≡◌, true, ◌&&◌, ℕ, zero, suc, ◌<◌, ◌≤◌, ◌⊎◌, Option, Some, None, MatchOption, List, [], ◌∷◌, ◌++◌, codes, length, map, reverse, get_or, slice_get, refl, sym, ap, ◌∙◌, append_assoc, arith, inl, inr}
use Rattle.std.proofs.lemmas.List.{append_cancel_left}
use Rattle.std.proofs.lemmas.Option.{get_or_from_slice_get, slice_get-get_or, slice_get_within}
use Rattle.vs_design.specs.vs_logic4.specs.declared.digit.Digit.{Digit}
use Rattle.std.specs.Prelude.{nat_lt}
use Rattle.std.proofs.lemmas.Bool.{cases_lt, and_parts as and_true}
use Rattle.std.proofs.lemmas.Bool.Decides.{Decides-ltb}
use Rattle.vs_vcd_writing.specs.Codes.{code}
use Rattle.vs_vcd_writing.proofs.CodeLemmas.{code-injective}
use Rattle.vs_vcd_writing.specs.Values.{digit_character, shortened, value_change}
use Rattle.vs_vcd_lines.specs.declared.dump.ValueChange.{ValueChange}
use Rattle.vs_vcd_lines.specs.Cuts.{IsCut}
use Rattle.vs_vcd_lines.specs.Lines.{change_line, are_sizes, IsSized, IsValue}
use Rattle.vs_vcd_lines.proofs.CutLemmas.{cut_once}
use Rattle.vs_vcd_lines.proofs.CodeLemmas.{parts_of, rest_of}
use Rattle.vs_vcd_lines.proofs.BeginningsValueLemmas.{characters_lack}

-- ---- one bit

-- a value of one digit
abbrev IsOne : List Digit → Type 0
IsOne v = (d : Digit) × (v ≡ d ∷ [])

one_of : (v : List Digit) → length v ≡ 1 → IsOne v
one_of [] h = absurd (omega (arith, h))
one_of (d ∷ []) h = (d, refl)
one_of (d ∷ e ∷ ds) h = absurd (omega (arith, h))

narrow_line : (line : List ℕ) (c : ValueChange) (h : length c.value ≡ 1) → line ≡ change_line c → line ≡ digit_character (one_of c.value h).0 ∷ code c.number
narrow_line line c h is = is ∙ ap (λ v. value_change v (code c.number)) (one_of c.value h).1

pub narrow_some : (line : List ℕ) (c : ValueChange) → length c.value ≡ 1 → line ≡ change_line c → length line < 1 → ⊥
narrow_some line c h is none = let size = ap length (narrow_line line c h is) in omega (arith, size, none)

pub narrow_digit : (line : List ℕ) (c : ValueChange) → length c.value ≡ 1 → line ≡ change_line c → ((d : Digit) → get_or line 0 0 ≡ digit_character d → ⊥) → ⊥
narrow_digit line c h is none = none (one_of c.value h).0 (ap (λ l. get_or l 0 0) (narrow_line line c h is))

pub narrow_code : (line : List ℕ) (c : ValueChange) → 1 ≤ length line → length c.value ≡ 1 → line ≡ change_line c → rest_of line ≡ code c.number
narrow_code line c some h is =
    let whole : get_or line 0 0 ∷ rest_of line ≡ digit_character (one_of c.value h).0 ∷ code c.number = sym (parts_of line some) ∙ narrow_line line c h is in
    cc

pub narrow_made : (line : List ℕ) (d : Digit) (number : ℕ) (v : List Digit) → 1 ≤ length line → get_or line 0 0 ≡ digit_character d → rest_of line ≡ code number
    → v ≡ d ∷ [] → line ≡ value_change v (code number)
narrow_made line d number v some first rest is =
    parts_of line some ∙ ap (λ b. b ∷ rest_of line) first ∙ ap (λ l. digit_character d ∷ l) rest ∙ ap (λ w. value_change w (code number)) (sym is)

-- ---- more bits

pub wide_text : (v : List Digit) (c : List ℕ) → 2 ≤ length v
    → value_change v c ≡ codes "b" ++ (map digit_character (shortened (reverse v)) ++ (32 ∷ c))
wide_text [] c h = absurd (omega (arith, h))
wide_text (d ∷ []) c h = absurd (omega (arith, h))
wide_text (d ∷ e ∷ ds) c h =
    let digits = map digit_character (shortened (reverse (d ∷ e ∷ ds))) in
    append_assoc (codes "b" ++ digits) (codes " ") c ∙ append_assoc (codes "b") digits (32 ∷ c)

pub wide_rest : (line rest : List ℕ) (c : ValueChange) → line ≡ codes "b" ++ rest → 2 ≤ length c.value → line ≡ change_line c
    → rest ≡ map digit_character (shortened (reverse c.value)) ++ (32 ∷ code c.number)
wide_rest line rest c first wide is =
    append_cancel_left (codes "b") rest (map digit_character (shortened (reverse c.value)) ++ (32 ∷ code c.number))
    (sym first ∙ is ∙ wide_text c.value (code c.number) wide)

pub wide_parts : (line rest digits text : List ℕ) (c : ValueChange) → line ≡ codes "b" ++ rest → IsCut 32 rest digits text → 2 ≤ length c.value
    → line ≡ change_line c → (digits ≡ map digit_character (shortened (reverse c.value))) × (text ≡ code c.number)
wide_parts line rest digits text c first cut wide is =
    cut_once 32 digits (map digit_character (shortened (reverse c.value))) text (code c.number) cut.first (characters_lack (shortened (reverse c.value)))
    (sym cut.is ∙ wide_rest line rest c first wide is)

pub wide_made : (line rest digits text : List ℕ) (number width : ℕ) (v : List Digit) → line ≡ codes "b" ++ rest → IsCut 32 rest digits text → text ≡ code number
    → 2 ≤ width → IsValue digits width v → line ≡ value_change v (code number)
wide_made line rest digits text number width v first cut coded wide h =
    let size = h.wide in
    first
    ∙ ap (λ l. codes "b" ++ l)
    (cut.is ∙ ap (λ l. l ++ (32 ∷ text)) h.is ∙ ap (λ l. map digit_character (shortened (reverse v)) ++ (32 ∷ l)) coded)
    ∙ sym (wide_text v (code number) (omega (arith, size, wide)))

-- ---- sizes

pub number_once : (text : List ℕ) (m n : ℕ) → text ≡ code m → text ≡ code n → m ≡ n
number_once text m n e f = code-injective m n (sym e ∙ f)

pub sized_is : (widths : List ℕ) (i : ℕ) (c : ValueChange) → i ≡ c.number → IsSized widths c → get_or widths i 0 ≡ length c.value
sized_is widths i c same h = ap (λ k. get_or widths k 0) same ∙ get_or_from_slice_get widths c.number (length c.value) 0 h

pub sized_made : (widths : List ℕ) (i size : ℕ) → i < length widths → get_or widths i 0 ≡ size → slice_get widths i ≡ Some size
sized_made widths i size within is = slice_get-get_or widths i 0 within ∙ ap Some is

pub sizes_at : (widths : List ℕ) (i : ℕ) → are_sizes widths ≡ true → i < length widths → (0 < get_or widths i 0) × (get_or widths i 0 ≤ 64)
sizes_at [] i h within = absurd (omega (arith, within))
sizes_at (w ∷ ws) zero h within =
    let parts = and_true (nat_lt 0 w && nat_lt w 65) (are_sizes ws) h in
    let both = and_true (nat_lt 0 w) (nat_lt w 65) parts.0 in
    (let some = (Decides-ltb 0 w).0 both.0 in omega (arith, some), let most = (Decides-ltb w 65).0 both.1 in omega (arith, most))
sizes_at (w ∷ ws) (suc i) h within =
    let parts = and_true (nat_lt 0 w && nat_lt w 65) (are_sizes ws) h in
    sizes_at ws i parts.1 (omega (arith, within))

pub some_size : (widths : List ℕ) (c : ValueChange) → are_sizes widths ≡ true → IsSized widths c → (length c.value ≡ 1) ⊎ (2 ≤ length c.value)
some_size widths c sizes h =
    let bounds = sizes_at widths c.number sizes (slice_get_within widths c.number (length c.value) h) in
    let same = get_or_from_slice_get widths c.number (length c.value) 0 h in
    elim (cases_lt (length c.value) 2) [ inl less ↦ inl (omega (arith, less, bounds.0, same)) | inr more ↦ inr more ]

-- neither of one bit nor of more
pub change_none : (line widths : List ℕ) → are_sizes widths ≡ true → ((c : ValueChange) → length c.value ≡ 1 → IsSized widths c → line ≡ change_line c → ⊥)
    → (r : Option ValueChange)
    → MatchOption r ((c : ValueChange) → 2 ≤ length c.value → IsSized widths c → line ≡ change_line c → ⊥) (λ c. IsSized widths c × (line ≡ change_line c))
    → MatchOption r ((c : ValueChange) → IsSized widths c → line ≡ change_line c → ⊥) (λ c. IsSized widths c × (line ≡ change_line c))
change_none line widths sizes narrow (Some x) h = h
change_none line widths sizes narrow None h = λ c sized is.
    elim (some_size widths c sizes sized) [ inl one ↦ narrow c one sized is | inr more ↦ h c more sized is ]
