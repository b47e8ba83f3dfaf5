-- Lemmas on values in two planes.
use Rattle.std.proofs.Common.{◌≡◌, ℕ, zero, suc, ◌+◌, ◌-◌, ◌*◌, ◌<◌, ◌≤◌, ◌/◌, ◌%◌, ◌^◌, pos, ◌+ℤ◌, List, [], ◌∷◌, ◌++◌, length, get_or, take, replicate, refl, sym, ◌∙◌, ap, ap₂, arith}
use Rattle.std.specs.Prelude.{false}
use Rattle.std.proofs.lemmas.Int.{ints}
use Rattle.std.proofs.lemmas.List.{take_all}
use Rattle.vs_design.specs.vs_logic4.specs.declared.digit.Digit.{Digit}
use Rattle.vs_design.specs.vs_logic4.specs.declared.digit.Digit.TheVariants.{Zero, X}
use Rattle.vs_design.specs.vs_logic4.specs.Lengths.{length-selected}
use Rattle.vs_design.specs.vs_logic4.specs.Parts.{digit_at, selected}
use Rattle.vs_design.specs.vs_logic4.specs.PlaneLaws.{digits_of_planes-of, digit_of_bits-of, value_bit-lt, unknown_bit-lt, planes_are, get_or-digits_of_planes}
use Rattle.vs_design.specs.vs_logic4.specs.Planes.{digit_of_bits, digits_of_planes, value_plane, unknown_plane, value_bit, unknown_bit}
use Rattle.vs_design.specs.vs_logic4.specs.Vectors.{resized}
use Rattle.vs_design.specs.vs_logic4.proofs.Basics.{bit_at-shr}
use Rattle.vs_design.specs.vs_logic4.proofs.Parts.{get_or-selected}
use Rattle.vs_eval.specs.Nodes.{planes_from}
use Rattle.vs_eval.specs.PlanesOf.{planes_of, digits_of}

-- a vector is what its planes hold at its own size
pub own_digits : (width : ℕ) (ds : List Digit) → length ds ≡ width → digits_of width (planes_of ds) ≡ ds
own_digits width ds h = ap (λ w. digits_of w (planes_of ds)) (sym h) ∙ digits_of_planes-of ds

-- empty planes hold 0 in each place
empty_digits : (width : ℕ) → digits_of_planes width 0 0 ≡ replicate width Zero
empty_digits zero = refl
empty_digits (suc width) = ap (λ ds. Zero ∷ ds) (empty_digits width)

-- at any size planes hold the vector cut on the left, or extended there by 0
pub other_digits : (width : ℕ) (ds : List Digit) → digits_of width (planes_of ds) ≡ resized false width ds
other_digits zero [] = refl
other_digits zero (d ∷ ds) = let none : 0 ≡ 0 - suc (length ds) = omega arith in ap (λ n. replicate n Zero) none
other_digits (suc width) [] = let all : suc width ≡ suc width - 0 = omega arith in empty_digits (suc width) ∙ ap (λ n. replicate n Zero) all
other_digits (suc width) (d ∷ ds) =
    let low_value : (value_bit d + 2 * value_plane ds) % 2 ≡ value_bit d = omega (arith, value_bit-lt d) in
    let low_unknown : (unknown_bit d + 2 * unknown_plane ds) % 2 ≡ unknown_bit d = omega (arith, unknown_bit-lt d) in
    let high_value : (value_bit d + 2 * value_plane ds) / 2 ≡ value_plane ds = omega (arith, value_bit-lt d) in
    let high_unknown : (unknown_bit d + 2 * unknown_plane ds) / 2 ≡ unknown_plane ds = omega (arith, unknown_bit-lt d) in
    let missing : width - length ds ≡ suc width - suc (length ds) = omega arith in
    rw (low_value, low_unknown, high_value, high_unknown, digit_of_bits-of d) (ap (λ es. d ∷ es) (other_digits width ds) ∙ ap (λ n. d ∷ (take width ds ++ replicate n Zero)) missing)

-- ---- a vector extended by 0

zero_value : (n : ℕ) → value_plane (replicate n Zero) ≡ 0
zero_value zero = refl
zero_value (suc n) = omega (arith, zero_value n)

zero_unknown : (n : ℕ) → unknown_plane (replicate n Zero) ≡ 0
zero_unknown zero = refl
zero_unknown (suc n) = omega (arith, zero_unknown n)

padded_value : (ds : List Digit) (n : ℕ) → value_plane (ds ++ replicate n Zero) ≡ value_plane ds
padded_value [] n = zero_value n
padded_value (d ∷ ds) n = ap (λ p. value_bit d + 2 * p) (padded_value ds n)

padded_unknown : (ds : List Digit) (n : ℕ) → unknown_plane (ds ++ replicate n Zero) ≡ unknown_plane ds
padded_unknown [] n = zero_unknown n
padded_unknown (d ∷ ds) n = ap (λ p. unknown_bit d + 2 * p) (padded_unknown ds n)

-- at a larger size without a sign a vector has the same planes
pub wide_planes : (width : ℕ) (ds : List Digit) → length ds ≤ width → planes_of (resized false width ds) ≡ planes_of ds
wide_planes width ds h =
    ap (λ xs. planes_of (xs ++ replicate (width - length ds) Zero)) (take_all width ds h)
    ∙ ap₂ (λ v u. record { value = v; unknown = u }) (padded_value ds (width - length ds)) (padded_unknown ds (width - length ds))

-- ---- bits of a vector

-- bits of planes, all in range, are those of the vector's digits
pub bits_are : (low width : ℕ) (ds : List Digit) → low + width ≤ length ds → planes_from low width (planes_of ds) ≡ planes_of (selected (pos low) width ds)
bits_are low width ds h =
    ap planes_of
    (planes_are width (value_plane ds / 2 ^ low) (unknown_plane ds / 2 ^ low) (selected (pos low) width ds) (length-selected (pos low) width ds)
    (λ i below.
    let place : pos low +ℤ pos i ≡ pos (low + i) = omega (arith, ints) in
    let inside : low + i < length ds = omega arith in
    ap₂ digit_of_bits (bit_at-shr (value_plane ds) low i) (bit_at-shr (unknown_plane ds) low i)
    ∙ sym (get_or-digits_of_planes (length ds) (value_plane ds) (unknown_plane ds) (low + i) X inside)
    ∙ ap (λ xs. get_or xs (low + i) X) (digits_of_planes-of ds)
    ∙ ap (λ z. digit_at z ds X) (sym place)
    ∙ sym (get_or-selected (pos low) width ds i below)))
