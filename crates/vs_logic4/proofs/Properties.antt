-- The laws of vectors.
use Rattle.std.proofs.Common.{◌≡◌, ℕ, suc, ◌+◌, ◌-◌, ◌*◌, ◌^◌, ◌<◌, ◌≤◌, ◌⊎◌, ℤ, pos, negsuc, ◌+ℤ◌, ◌-ℤ◌, neg_ℤ, Bool, true, List, [], ◌∷◌, length, get_or, slice_get, Some, refl, sym, ap, ◌∙◌, ⊎_elim, arith}
use Rattle.std.proofs.lemmas.Bool.{cases_lt}
use Rattle.std.proofs.lemmas.Int.{ints}
use Rattle.std.proofs.lemmas.List.{take_all, append-nil, ext_get_or, get_or_past, get_or_default}
use Rattle.std.proofs.lemmas.Option.{slice_get-get_or, slice_get_past, same_Some}
use Rattle.vs_logic4.specs.declared.digit.Digit.{Digit}
use Rattle.vs_logic4.specs.declared.digit.Digit.TheVariants.{X}
use Rattle.vs_logic4.specs.Planes.{digits_of_planes}
use Rattle.vs_logic4.specs.PlaneLaws.{of_number_is}
use Rattle.vs_logic4.specs.Vectors.{resized}
use Rattle.vs_logic4.specs.Comparisons.{is_known}
use Rattle.vs_logic4.specs.Arithmetic.{number, integer, of_integer}
use Rattle.vs_logic4.specs.Parts.{digit_at, selected, with_part}
use Rattle.vs_logic4.proofs.Numbers.{of_number-number, number-lt, integer_is, sign_bit, of_integer_is}
use Rattle.vs_logic4.proofs.Parts.{get_or-selected, get_or-replaced_from}
use Rattle.vs_logic4.specs.Lengths.{length-selected, length-with_part}

pub same_digits_make_equal_lem : (ds es : List Digit) → length ds ≡ length es → ((k : ℕ) → k < length ds → slice_get ds k ≡ slice_get es k) → ds ≡ es
same_digits_make_equal_lem ds es l h =
    ext_get_or X ds es l (λ k m.
    same_Some (get_or ds k X) (get_or es k X)
    (sym (slice_get-get_or ds k X m) ∙ h k m ∙ slice_get-get_or es k X (omega arith)))

pub resized-own_width : (signed : Bool) (ds : List Digit) → resized signed (length ds) ds ≡ ds
resized-own_width signed ds =
    let none : length ds - length ds ≡ 0 = omega arith in
    rw (none, take_all (length ds) ds (omega arith)) (append-nil ds)

-- a digit after a part was put in, at any place
pub get_or-with_part : (low : ℤ) (part ds : List Digit) (k : ℕ) → k < length ds → get_or (with_part low part ds) k X ≡ digit_at (pos k -ℤ low) part (get_or ds k X)
get_or-with_part low part ds k h =
    get_or-replaced_from (neg_ℤ low) part ds k h
    ∙ ap (λ z. digit_at z part (get_or ds k X)) (let e : neg_ℤ low +ℤ pos k ≡ pos k -ℤ low = omega (arith, ints) in e)

pub selected-with_part : (low : ℕ) (part ds : List Digit) → low + length part ≤ length ds → selected (pos low) (length part) (with_part (pos low) part ds) ≡ part
selected-with_part low part ds h =
    ext_get_or X (selected (pos low) (length part) (with_part (pos low) part ds)) part
    (length-selected (pos low) (length part) (with_part (pos low) part ds))
    (λ i k.
    let within : i < length part = rw length-selected at k in
    let place : pos (low + i) -ℤ pos low ≡ pos i = omega (arith, ints) in
    get_or-selected (pos low) (length part) (with_part (pos low) part ds) i within
    ∙ get_or-with_part (pos low) part ds (low + i) (omega arith)
    ∙ rw place (get_or_default part i (get_or ds (low + i) X) X within))

-- a place beside a part has no digit of it
apart : (low : ℕ) (part : List Digit) (k : ℕ) (d : Digit) → (k < low) ⊎ (low + length part ≤ k) → digit_at (pos k -ℤ pos low) part d ≡ d
apart low part k d h = ⊎_elim
    (λ (m : k < low).
    let place : pos k -ℤ pos low ≡ negsuc (low - suc k) = omega (arith, ints) in
    rw place refl)
    (λ (m : low + length part ≤ k).
    let place : pos k -ℤ pos low ≡ pos (k - low) = omega (arith, ints) in
    rw place (get_or_past part (k - low) d (omega arith)))
    h

pub slice_get-with_part : (low : ℕ) (part ds : List Digit) (k : ℕ) → (k < low) ⊎ (low + length part ≤ k) → slice_get (with_part (pos low) part ds) k ≡ slice_get ds k
slice_get-with_part low part ds k h = ⊎_elim
    (λ (m : k < length ds).
    let long : k < length (with_part (pos low) part ds) = rw length-with_part m in
    slice_get-get_or (with_part (pos low) part ds) k X long
    ∙ ap Some (get_or-with_part (pos low) part ds k m ∙ apart low part k (get_or ds k X) h)
    ∙ sym (slice_get-get_or ds k X m))
    (λ (m : length ds ≤ k).
    let long : length (with_part (pos low) part ds) ≤ k = rw length-with_part m in
    slice_get_past (with_part (pos low) part ds) k long ∙ sym (slice_get_past ds k m))
    (cases_lt k (length ds))

pub of_integer-integer : (signed : Bool) (ds : List Digit) → is_known ds ≡ true → of_integer (length ds) (integer signed ds) ≡ ds
of_integer-integer signed [] h = refl
of_integer-integer signed (d ∷ ds) h =
    let vector = d ∷ ds in
    let whole = of_number-number vector h in
    let planes : digits_of_planes (length vector) (number vector) 0 ≡ vector = of_number_is (length vector) (number vector) ∙ whole in
    let value : integer signed vector +ℤ pos (sign_bit signed (length vector) (number vector) * 2 ^ length vector) ≡ pos (number vector) =
    rw planes at (integer_is signed (length vector) (number vector) (omega arith) (number-lt vector)) in
    of_integer_is (length vector) (integer signed vector) (sign_bit signed (length vector) (number vector)) 0 (number vector) (value ∙ ap pos (omega arith))
    ∙ whole
