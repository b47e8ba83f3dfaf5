-- The digits of a value, one by one from the highest.
use Rattle.std.proofs.Common.{◌≡◌, ℕ, ◌+◌, Some, List, [], ◌∷◌, ◌++◌, append_assoc, map, reverse, take, sym, ◌∙◌, ap}
use Rattle.std.proofs.lemmas.List.{map_push, reverse-append, take_more}
use Rattle.std.proofs.lemmas.Option.{get_or_from_slice_get, slice_get_within}
use Rattle.std.specs.Prelude.{slice_get}
use Rattle.vs_design.specs.vs_logic4.specs.declared.digit.Digit.{Digit}
use Rattle.vs_design.specs.vs_logic4.specs.Tables.{letter}

one_more : (v : List Digit) (m : ℕ) (d : Digit) → slice_get v m ≡ Some d → take (m + 1) v ≡ take m v ++ d ∷ []
one_more v m d h = take_more v m d (slice_get_within v m d h) ∙ ap (λ (x : Digit). take m v ++ x ∷ []) (get_or_from_slice_get v m d d h)

turned : (v : List Digit) (m : ℕ) (d : Digit) → slice_get v m ≡ Some d → reverse (map letter (take (m + 1) v)) ≡ letter d ∷ reverse (map letter (take m v))
turned v m d h =
    ap (λ (l : List Digit). reverse (map letter l)) (one_more v m d h) ∙ ap reverse (map_push letter (take m v) d)
    ∙ reverse-append (map letter (take m v)) (letter d ∷ [])

-- a digit more
pub digit_more : (v : List Digit) (m : ℕ) (d : Digit) (text all : List ℕ) → slice_get v m ≡ Some d → text ++ reverse (map letter (take (m + 1) v)) ≡ all →
    (text ++ letter d ∷ []) ++ reverse (map letter (take m v)) ≡ all
digit_more v m d text all h so_far =
    append_assoc text (letter d ∷ []) (reverse (map letter (take m v))) ∙ ap (λ (l : List ℕ). text ++ l) (sym (turned v m d h)) ∙ so_far
