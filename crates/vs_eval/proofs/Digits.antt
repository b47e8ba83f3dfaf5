-- Lemmas on parts of vectors.
use Rattle.std.proofs.Common.{◌≡◌, ℕ, zero, suc, ◌+◌, ◌-◌, ◌<◌, ◌≤◌, ◌&&◌, false, ℤ, pos, negsuc, ◌+ℤ◌, neg_ℤ, nat_le, nat_lt, Option, Some, None, option_map, List, [], ◌∷◌, length, take, drop, slice_get, get_or, refl, sym, ◌∙◌, ap, ap₂, ⊎_elim, arith}
use Rattle.std.proofs.lemmas.Bool.{cases_lt}
use Rattle.std.proofs.lemmas.Bool.Decides.{nat_tests}
use Rattle.std.proofs.lemmas.Int.{ints}
use Rattle.std.proofs.lemmas.List.{get_or_past, get_or-take, get_or-drop}
use Rattle.vs_design.specs.vs_logic4.specs.declared.digit.Digit.{Digit}
use Rattle.vs_design.specs.vs_logic4.specs.declared.digit.Digit.TheVariants.{X}
use Rattle.vs_design.specs.vs_logic4.specs.Parts.{digit_at, selected, replaced_from, with_part}
use Rattle.vs_design.specs.Stores.{chosen_bits}
use Rattle.vs_design.specs.Uses.{bits_from, has_bit}

-- ---- selected digits

-- vectors with the same digits at the places of a part have the same part
selected_same : (low : ℤ) (n : ℕ) (ds es : List Digit) → ((i : ℕ) → i < n → digit_at (low +ℤ pos i) ds X ≡ digit_at (low +ℤ pos i) es X) → selected low n ds ≡ selected low n es
selected_same low zero ds es h = refl
selected_same low (suc n) ds es h =
    let here : low +ℤ pos 0 ≡ low = omega (arith, ints) in
    ap₂ (λ d rest. d ∷ rest)
    (ap (λ z. digit_at z ds X) (sym here) ∙ h 0 (omega arith) ∙ ap (λ z. digit_at z es X) here)
    (selected_same (low +ℤ pos 1) n ds es (λ i below.
    let next : (low +ℤ pos 1) +ℤ pos i ≡ low +ℤ pos (suc i) = omega (arith, ints) in
    ap (λ z. digit_at z ds X) next ∙ h (suc i) (omega arith) ∙ ap (λ z. digit_at z es X) (sym next)))

-- past the end each digit is x
pub selected_past : (p q n : ℕ) (ds : List Digit) → length ds ≤ p → length ds ≤ q → selected (pos p) n ds ≡ selected (pos q) n ds
selected_past p q zero ds h k = refl
selected_past p q (suc n) ds h k =
    let next_p : pos p +ℤ pos 1 ≡ pos (p + 1) = omega (arith, ints) in
    let next_q : pos q +ℤ pos 1 ≡ pos (q + 1) = omega (arith, ints) in
    ap₂ (λ d rest. d ∷ rest)
    (get_or_past ds p X h ∙ sym (get_or_past ds q X k))
    (ap (λ z. selected z n ds) next_p ∙ selected_past (p + 1) (q + 1) n ds (omega arith) (omega arith) ∙ ap (λ z. selected z n ds) (sym next_q))

-- the digits of a part, from those of its range
within_range : (l w i : ℕ) (ds : List Digit) → i < w → get_or (take w (drop l ds)) i X ≡ get_or ds (l + i) X
within_range l w i ds h = get_or-take w (drop l ds) i X h ∙ get_or-drop l ds i X

-- vectors with the same bits in the range of a part have the same part
pub selected_kept : (low : ℤ) (width : ℕ) (ds es : List Digit) → chosen_bits (Some (bits_from low width)) ds ≡ chosen_bits (Some (bits_from low width)) es → selected low width ds ≡ selected low width es
selected_kept (pos l) width ds es h =
    selected_same (pos l) width ds es (λ i below.
    let place : pos l +ℤ pos i ≡ pos (l + i) = omega (arith, ints) in
    ap (λ z. digit_at z ds X) place
    ∙ sym (within_range l width i ds below) ∙ ap (λ bits. get_or bits i X) h ∙ within_range l width i es below
    ∙ ap (λ z. digit_at z es X) (sym place))
selected_kept (negsuc b) width ds es h =
    selected_same (negsuc b) width ds es (λ i below.
    ⊎_elim
    (λ under.
    let place : negsuc b +ℤ pos i ≡ negsuc (b - i) = omega (arith, ints) in
    ap (λ z. digit_at z ds X) place ∙ ap (λ z. digit_at z es X) (sym place))
    (λ over.
    let place : negsuc b +ℤ pos i ≡ pos (0 + (i - suc b)) = omega (arith, ints) in
    let inside : i - suc b < width - suc b = omega arith in
    ap (λ z. digit_at z ds X) place
    ∙ sym (within_range 0 (width - suc b) (i - suc b) ds inside) ∙ ap (λ bits. get_or bits (i - suc b) X) h ∙ within_range 0 (width - suc b) (i - suc b) es inside
    ∙ ap (λ z. digit_at z es X) (sym place))
    (cases_lt i (suc b)))

-- ---- digits laid over

-- a digit of a vector with a part put in
pub replaced_digit : (z : ℤ) (part ds : List Digit) (i : ℕ) → slice_get (replaced_from z part ds) i ≡ option_map (digit_at (z +ℤ pos i) part) (slice_get ds i)
replaced_digit z part [] i = refl
replaced_digit z part (d ∷ ds) zero = let here : z ≡ z +ℤ pos 0 = omega (arith, ints) in ap (λ y. Some (digit_at y part d)) here
replaced_digit z part (d ∷ ds) (suc i) =
    let next : (z +ℤ pos 1) +ℤ pos i ≡ z +ℤ pos (suc i) = omega (arith, ints) in
    replaced_digit (z +ℤ pos 1) part ds i ∙ ap (λ y. option_map (digit_at y part) (slice_get ds i)) next

outside_pos : (l k w : ℕ) → l ≤ k → (nat_le l k && nat_lt k (l + w)) ≡ false → w ≤ k - l
outside_pos l k w h out = grind (arith, nat_tests)

outside_neg : (b k w : ℕ) → (nat_le 0 k && nat_lt k (0 + (w - suc b))) ≡ false → w ≤ suc b + k
outside_neg b k w out = grind (arith, nat_tests)

-- out of a part's range a digit stays
stays : (low : ℤ) (part : List Digit) (k : ℕ) (d : Digit) → has_bit (Some (bits_from low (length part))) k ≡ false → digit_at (neg_ℤ low +ℤ pos k) part d ≡ d
stays (pos l) part k d h =
    ⊎_elim
    (λ below. let place : neg_ℤ (pos l) +ℤ pos k ≡ negsuc (l - suc k) = omega (arith, ints) in ap (λ z. digit_at z part d) place)
    (λ above.
    let place : neg_ℤ (pos l) +ℤ pos k ≡ pos (k - l) = omega (arith, ints) in
    ap (λ z. digit_at z part d) place ∙ get_or_past part (k - l) d (outside_pos l k (length part) above h))
    (cases_lt k l)
stays (negsuc b) part k d h =
    let place : neg_ℤ (negsuc b) +ℤ pos k ≡ pos (suc b + k) = omega (arith, ints) in
    ap (λ z. digit_at z part d) place ∙ get_or_past part (suc b + k) d (outside_neg b k (length part) h)

each_stays : (f : Digit → Digit) → ((d : Digit) → f d ≡ d) → (o : Option Digit) → option_map f o ≡ o
each_stays f h None = refl
each_stays f h (Some d) = ap Some (h d)

-- a vector with a part put in keeps each digit out of the part's range
pub outside_kept : (low : ℤ) (part ds : List Digit) (k : ℕ) → has_bit (Some (bits_from low (length part))) k ≡ false → slice_get (with_part low part ds) k ≡ slice_get ds k
outside_kept low part ds k h = replaced_digit (neg_ℤ low) part ds k ∙ each_stays (digit_at (neg_ℤ low +ℤ pos k) part) (λ d. stays low part k d h) (slice_get ds k)
