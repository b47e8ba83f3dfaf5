-- Groups of digits.
use Rattle.std.proofs.Common.{◌≡◌, ℕ, zero, suc, ◌+◌, ◌-◌, ◌*◌, ◌^◌, ◌<◌, ◌≤◌, ◌≢◌, min, ℤ, pos, ◌*ℤ◌, Bool, true, false, cond, eqb, Some, None, List, [], ◌∷◌, ◌++◌, length, get_or, take, drop, refl, sym, ap, append_assoc, ◌∙◌, arith}
use Rattle.std.specs.Prelude.{slice_get}
use Rattle.std.proofs.Math.Seq.{drop-cons}
use Rattle.std.proofs.Math.Nat.{pow-le-pow_right, mul-le-mul_left}
use Rattle.std.proofs.lemmas.List.{length-drop, length-take, take_min}
use Rattle.std.proofs.lemmas.Bool.{cond-false, ne_eqb}
use Rattle.vs_design.specs.vs_logic4.specs.declared.digit.Digit.{Digit}
use Rattle.vs_design.specs.vs_logic4.specs.declared.digit.Digit.TheVariants.{Zero, One, X, Z}
use Rattle.vs_design.specs.vs_logic4.specs.Parts.{selected}
use Rattle.std.specs.Fmt.{signed_decimal}
use Rattle.vs_design.specs.vs_logic4.specs.Comparisons.{is_known}
use Rattle.vs_design.specs.vs_logic4.specs.Arithmetic.{bit_of, number, integer, known_number}
use Rattle.vs_strobe.specs.Values.{unknown_letter, group, group_count, by_groups, without_zeros, without_zero_bytes, number_text}
use Rattle.std.specs.List.{list_any}
use Rattle.vs_design.specs.vs_logic4.specs.Vectors.{same_digit}
use Rattle.vs_design.specs.vs_logic4.proofs.Numbers.{number-lt}
use Rattle.vs_strobe.proofs.PieceLemmas.{drop_at}

-- the number of at most so many digits
pub number_below : (n : ℕ) (ds : List Digit) → length ds ≤ n → number ds < 2 ^ n
number_below n ds h = omega (arith, number-lt ds, pow-le-pow_right {n = 2} (omega arith) h)

-- the number of the digits from a place on
pub number_from : (ds : List Digit) (i : ℕ) (d : Digit) → slice_get ds i ≡ Some d → number (drop i ds) ≡ number (drop (suc i) ds) * 2 + bit_of d
number_from ds i d h = rw (drop_at ds i d h) (omega arith)

-- .. as a step of a loop down from the top
pub number_from_step : (ds : List Digit) (k i so_far bit : ℕ) (d : Digit) → k ≡ suc i → slice_get ds i ≡ Some d → so_far ≡ number (drop k ds) → bit ≡ bit_of d
    → so_far * 2 + bit ≡ number (drop i ds)
number_from_step ds k i so_far bit d e h m b = rw (m, b, e) (sym (number_from ds i d h))

-- behind the first of at most eight digits it is below 128
pub number_from_below : (ds : List Digit) (k i : ℕ) → k ≡ suc i → length ds ≤ 8 → number (drop k ds) < 128
number_from_below ds k i e h = number_below 7 (drop k ds) (omega (arith, length-drop k ds))

-- digits in range that are selected are those
selected_inside : (n low : ℕ) (ds : List Digit) → low + n ≤ length ds → selected (pos low) n ds ≡ take n (drop low ds)
selected_inside zero low ds h = refl
selected_inside (suc n) low ds h =
    let next : low + 1 ≡ suc low = omega arith in
    rw (next, drop-cons ds low X (omega arith)) (ap (λ l. get_or ds low X ∷ l) (selected_inside n (suc low) ds (omega arith)))

-- a group is what is selected of it
pub group_selected : (size place low left : ℕ) (ds : List Digit) → low ≡ size * place → low < length ds → left ≡ length ds - low
    → selected (pos low) (min size left) ds ≡ group size place ds
group_selected size place low left ds e inside k =
    let all : left ≡ length (drop low ds) = omega (arith, length-drop low ds) in
    selected_inside (min size left) low ds (omega arith)
    ∙ ap (λ n. take (min size n) (drop low ds)) all
    ∙ take_min size (drop low ds)
    ∙ ap (λ n. take size (drop n ds)) e

-- .. and has at most its size
pub length-group : (size place : ℕ) (ds : List Digit) → length (group size place ds) ≤ size
length-group size place ds = omega (arith, length-take size (drop (size * place) ds))

-- a group that is counted has a digit
pub group_within : (size place width : ℕ) → 0 < size → place < group_count size width → size * place < width
group_within size place width some h =
    let below : size * (place + 1) ≤ size * group_count size width = mul-le-mul_left size (omega arith) in
    let next : size * (place + 1) ≡ size * place + size = omega arith in
    omega arith

-- one more group is written
pub groups_more : (f : List Digit → ℕ) (size : ℕ) (old new text : List ℕ) (ds : List Digit) (k i c : ℕ) → k ≡ suc i → c ≡ f (group size i ds) → new ≡ old ++ c ∷ []
    → old ++ by_groups f size k ds ≡ text → new ++ by_groups f size i ds ≡ text
groups_more f size old new text ds k i c e q push so_far =
    ap (λ l. l ++ by_groups f size i ds) push ∙ append_assoc old (c ∷ []) (by_groups f size i ds)
    ∙ rw q (ap (λ n. old ++ by_groups f size n ds) (sym e)) ∙ so_far

-- a zero on the left is dropped, where it isn't the last character
pub zeros_less : (f : List Digit → ℕ) (size : ℕ) (ds : List Digit) (k i c : ℕ) → k ≡ suc i → 0 < i → c ≡ f (group size i ds) → c ≡ 48
    → without_zeros (by_groups f size k ds) ≡ without_zeros (by_groups f size i ds)
zeros_less f size ds k zero c e some q z = absurd (omega arith)
zeros_less f size ds k (suc i) c e some q z = rw (e, ← q, z) refl

-- none is dropped behind another character
pub zeros_kept : (f : List Digit → ℕ) (size : ℕ) (ds : List Digit) (k i c : ℕ) → k ≡ suc i → 0 < i → c ≡ f (group size i ds) → c ≢ 48
    → without_zeros (by_groups f size k ds) ≡ by_groups f size k ds
zeros_kept f size ds k zero c e some q z = absurd (omega arith)
zeros_kept f size ds k (suc i) c e some q z = rw (e, ← q) (cond-false (eqb c 48) _ _ (ne_eqb c 48 z))

-- one character stays
pub zeros_one : (f : List Digit → ℕ) (size : ℕ) (ds : List Digit) (k : ℕ) → k ≤ 1 → without_zeros (by_groups f size k ds) ≡ by_groups f size k ds
zeros_one f size ds zero h = refl
zeros_one f size ds (suc zero) h = refl
zeros_one f size ds (suc (suc k)) h = absurd (omega arith)

-- a zero byte on the left is dropped
pub bytes_less : (size : ℕ) (ds : List Digit) (k i c : ℕ) → k ≡ suc i → c ≡ number (group size i ds) → c ≡ 0
    → without_zero_bytes (by_groups number size k ds) ≡ without_zero_bytes (by_groups number size i ds)
bytes_less size ds k i c e q z = rw (e, ← q, z) refl

-- none is dropped behind another byte
pub bytes_kept : (size : ℕ) (ds : List Digit) (k i c : ℕ) → k ≡ suc i → c ≡ number (group size i ds) → c ≢ 0
    → without_zero_bytes (by_groups number size k ds) ≡ by_groups number size k ds
bytes_kept size ds k i c e q z = rw (e, ← q) (cond-false (eqb c 0) _ _ (ne_eqb c 0 z))

-- an x is found
pub x_found : (ds : List Digit) (i : ℕ) (d : Digit) → slice_get ds i ≡ Some d → d ≡ X → list_any (same_digit X) (drop i ds) ≡ list_any (same_digit X) ds
    → true ≡ list_any (same_digit X) ds
x_found ds i d h e so_far = rw (drop_at ds i d h, e) at so_far

no_x : (d : Digit) → d ≢ X → same_digit X d ≡ false
no_x Zero h = refl
no_x One h = refl
no_x X h = absurd (h refl)
no_x Z h = refl

-- another digit is passed
pub x_passed : (ds : List Digit) (i : ℕ) (d : Digit) → slice_get ds i ≡ Some d → d ≢ X → list_any (same_digit X) (drop i ds) ≡ list_any (same_digit X) ds
    → list_any (same_digit X) (drop (suc i) ds) ≡ list_any (same_digit X) ds
x_passed ds i d h e so_far = rw (drop_at ds i d h, no_x d e) at so_far

-- the number of at most four digits is below 16
known_below_if : (b : Bool) (m n : ℕ) → Some n ≡ cond b (Some m) None → m < 16 → n < 16
known_below_if true m n h k = let e : n ≡ m = cc in omega arith
known_below_if false m n h k = cc

pub known_below : (ds : List Digit) (n : ℕ) → length ds ≤ 4 → Some n ≡ known_number ds → n < 16
known_below ds n short h = known_below_if (is_known ds) (number ds) n h (number_below 4 ds short)

-- a number that is known is shown in decimal
number_shown_if : (b : Bool) (z n p : ℤ) (other : List ℕ) → Some n ≡ cond b (Some z) None → signed_decimal (n *ℤ p) ≡ cond b (signed_decimal (z *ℤ p)) other
number_shown_if true z n p other h = let e : n ≡ z = cc in rw e refl
number_shown_if false z n p other h = cc

pub number_shown : (factor : ℕ) (signed : Bool) (ds : List Digit) (n : ℤ) → Some n ≡ cond (is_known ds) (Some (integer signed ds)) None
    → signed_decimal (n *ℤ pos factor) ≡ number_text factor signed ds
number_shown factor signed ds n h = number_shown_if (is_known ds) (integer signed ds) n (pos factor) (unknown_letter ds ∷ []) h
