-- Whether a write to bits of one word changes anything.
use Rattle.std.proofs.Common.{◌≡◌, ℕ, ◌+◌, ◌-◌, ◌/◌, ◌^◌, ◌<◌, ◌≤◌, inl, inr, ⊎_elim, ◌==◌, ◌&&◌, pos, ◌+ℤ◌, ◌-ℤ◌, Bool, true, false, Some, List, [], ◌∷◌, length, get_or, if◌then◌else◌, not, refl, sym, ◌∙◌, ap, ap₂, subst, eq-eqb, arith}
use Rattle.std.proofs.lemmas.Bool.{cases_lt}
use Rattle.std.proofs.lemmas.Int.{ints}
use Rattle.std.proofs.lemmas.List.{get_or_default}
use Rattle.std.proofs.lemmas.Option.{slice_get-get_or}
use Rattle.vs_design.specs.vs_logic4.specs.declared.digit.Digit.{Digit}
use Rattle.vs_design.specs.vs_logic4.specs.declared.digit.Digit.TheVariants.{X}
use Rattle.vs_design.specs.vs_logic4.specs.Lengths.{length-selected, length-with_part}
use Rattle.vs_design.specs.vs_logic4.specs.Parts.{digit_at, selected, with_part}
use Rattle.vs_design.specs.vs_logic4.specs.PlaneLaws.{length-digits_of_planes, same_from_planes}
use Rattle.vs_design.specs.vs_logic4.specs.Planes.{digits_of_planes, unknown_plane, value_plane}
use Rattle.vs_design.specs.vs_logic4.specs.Sameness.{same_digits_self, same_digits-true}
use Rattle.vs_design.specs.vs_logic4.specs.Vectors.{same_digits}
use Rattle.vs_design.specs.vs_logic4.proofs.Parts.{get_or-selected}
use Rattle.vs_design.specs.vs_logic4.proofs.Properties.{get_or-with_part, same_digits_make_equal_lem, selected-with_part, slice_get-with_part}
use Rattle.vs_design.specs.vs_logic4.proofs.Basics.{same_tests}
use Rattle.vs_design.specs.declared.write.Part.{Part}
use Rattle.vs_design.specs.WordWrites.{is_kept, after_parts}
use Rattle.vs_design.specs.Stores.{Store, changes_nothing, overlaid, word_of}
use Rattle.vs_design.proofs.Stores.{keeps_all}
use Rattle.vs_eval.specs.declared.node.Planes.{Planes}
use Rattle.vs_eval.specs.PlanesOf.{planes_of}
use Rattle.vs_eval.proofs.PlanesLemmas.{bits_are}

-- ---- bits of a word

-- bits that a word has already
put_held : (low : ℕ) (ds word : List Digit) → low + length ds ≤ length word → selected (pos low) (length ds) word ≡ ds → with_part (pos low) ds word ≡ word
put_held low ds word inside same =
    same_digits_make_equal_lem (with_part (pos low) ds word) word (length-with_part (pos low) ds word)
    (λ k m.
    let here : k < length word = omega (arith, m, length-with_part (pos low) ds word) in
    ⊎_elim
    (λ (before : k < low). slice_get-with_part low ds word k (inl before))
    (λ (from : low ≤ k). ⊎_elim
    (λ (within : k < low + length ds).
    let i : ℕ = k - low in
    let below : k - low < length ds = omega arith in
    let place : pos k -ℤ pos low ≡ pos (k - low) = omega (arith, ints) in
    let back : pos low +ℤ pos (k - low) ≡ pos k = omega (arith, ints) in
    slice_get-get_or (with_part (pos low) ds word) k X m
    ∙ ap Some (
    get_or-with_part (pos low) ds word k here
    ∙ ap (λ z. digit_at z ds (get_or word k X)) place
    ∙ get_or_default ds (k - low) (get_or word k X) X below
    ∙ ap (λ (l : List Digit). get_or l (k - low) X) (sym same)
    ∙ get_or-selected (pos low) (length ds) word (k - low) below
    ∙ ap (λ z. digit_at z word X) back
    )
    ∙ sym (slice_get-get_or word k X here))
    (λ (past : low + length ds ≤ k). slice_get-with_part low ds word k (inr past))
    (cases_lt k (low + length ds)))
    (cases_lt k low))

-- whether a word has them is whether it stays when they are put in
pub bits_held : (low : ℕ) (ds word : List Digit) → low + length ds ≤ length word → same_digits (selected (pos low) (length ds) word) ds ≡ same_digits word (with_part (pos low) ds word)
bits_held low ds word inside =
    same_tests (same_digits (selected (pos low) (length ds) word) ds) (same_digits word (with_part (pos low) ds word))
    (λ held.
    let same : with_part (pos low) ds word ≡ word = put_held low ds word inside (same_digits-true (selected (pos low) (length ds) word) ds held) in
    subst (λ (w : List Digit). same_digits word w ≡ true) (sym same) (same_digits_self word))
    (λ kept.
    let same : word ≡ with_part (pos low) ds word = same_digits-true word (with_part (pos low) ds word) kept in
    let bits : selected (pos low) (length ds) word ≡ ds = ap (selected (pos low) (length ds)) same ∙ selected-with_part low ds word inside in
    subst (λ (w : List Digit). same_digits w ds ≡ true) (sym bits) (same_digits_self ds))

-- bits of a word by its planes
pub bits_read : (low width : ℕ) (word : List Digit) → low + width ≤ length word →
    digits_of_planes width (value_plane word / 2 ^ low) (unknown_plane word / 2 ^ low) ≡ selected (pos low) width word
bits_read low width word inside =
    let made : List Digit = digits_of_planes width (value_plane word / 2 ^ low) (unknown_plane word / 2 ^ low) in
    let planes : planes_of made ≡ planes_of (selected (pos low) width word) = bits_are low width word inside in
    same_from_planes made (selected (pos low) width word)
    (length-digits_of_planes width (value_plane word / 2 ^ low) (unknown_plane word / 2 ^ low) ∙ sym (length-selected (pos low) width word))
    (ap (λ (p : Planes). p.value) planes) (ap (λ (p : Planes). p.unknown) planes)

-- ---- a write of one part

same_number : (n : ℕ) → (n == n) ≡ true
same_number n = eq-eqb n n refl

-- it changes nothing where its word stays
pub one_kept : (store : Store) (p : Part) (word : List Digit) → word_of store p.signal p.word ≡ Some word → changes_nothing store (p ∷ []) ≡ same_digits word (overlaid p.low p.digits word)
one_kept store p word there =
    sym (keeps_all store (p ∷ []))
    ∙ ap (λ (b : Bool). b && true) (
    ap (is_kept (after_parts (p ∷ []) p.signal p.word)) there
    ∙ ap (λ (b : Bool). same_digits word (if b then overlaid p.low p.digits word else word)) (ap₂ (λ (a c : Bool). a && c) (same_number p.signal) (same_number p.word))
    )
    ∙ and_true (same_digits word (overlaid p.low p.digits word))
  where
    and_true : (b : Bool) → (b && true) ≡ b
    and_true true = refl
    and_true false = refl

-- ---- tests

pub twice_not : (b : Bool) → b ≡ not (not b)
twice_not true = refl
twice_not false = refl
