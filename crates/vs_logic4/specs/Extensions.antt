-- How a plane is cut or extended, and that the vector then is.
use Rattle.std.proofs.Common.{◌≡◌, ℕ, ◌-◌, ◌^◌, ◌<◌, ◌≤◌, Bool, true, false, cond, ◌&&◌, eqb, ◌/◌, max, List, length, get_or, take, replicate, bit_and, bit_or, refl, sym, ◌∙◌, arith, ⊎_elim, w64}
use Rattle.std.specs.Int.{bit_at, bit_not}
use Rattle.std.proofs.Math.Nat.{pow-le-pow_right}
use Rattle.std.proofs.lemmas.Bool.{cases_lt, and_parts, eqb-true, eqb-false}
use Rattle.std.proofs.lemmas.Nat.{and_le_r, pow_pos}
use Rattle.std.proofs.lemmas.Nat.Bits.{bit_at_and, bit_at_or, bit_at_not, bit_at_ones, bit_at_ones_above, bit_at_above, bit_at-zero, bit_at-lt, shr_and_one}
use Rattle.std.proofs.lemmas.List.{length-append, length-take, length-replicate, get_or_append_left, get_or-take, get_or-append_right, get_or-replicate}
use Rattle.vs_logic4.specs.declared.digit.Digit.{Digit}
use Rattle.vs_logic4.specs.declared.digit.Digit.TheVariants.{X}
use Rattle.vs_logic4.specs.Planes.{digit_of_bits, digits_of_planes}
use Rattle.vs_logic4.specs.Vectors.{extension_digit, top_digit, resized}
use Rattle.vs_logic4.specs.PlaneLaws.{length-digits_of_planes, get_or-digits_of_planes, planes_are}

-- a plane of `to` bits has the bits of one of `from` bits, and above them 0, or its top bit where signed
pub record IsExtended (signed : Bool) (from to plane wide : ℕ) : Type 0 where
  pub below : wide < 2 ^ to
  pub low : (i : ℕ) → i < from → i < to → bit_at wide i ≡ bit_at plane i
  pub high : (i : ℕ) → from ≤ i → i < to → bit_at wide i ≡ cond signed (bit_at plane (from - 1)) 0

pub length-resized : (signed : Bool) (n : ℕ) (ds : List Digit) → length (resized signed n ds) ≡ n
length-resized signed n ds = omega (arith, length-append (take n ds) (replicate (n - length ds) (extension_digit signed ds)), length-take n ds, length-replicate (n - length ds) (extension_digit signed ds))

-- a digit of a resized vector, within the vector and above it
pub get_or-resized_low : (signed : Bool) (n : ℕ) (ds : List Digit) (i : ℕ) → i < length ds → i < n → get_or (resized signed n ds) i X ≡ get_or ds i X
get_or-resized_low signed n ds i h k =
    let within : i < length (take n ds) = omega (arith, length-take n ds) in
    get_or_append_left (take n ds) (replicate (n - length ds) (extension_digit signed ds)) X i within ∙ get_or-take n ds i X k

pub get_or-resized_high : (signed : Bool) (n : ℕ) (ds : List Digit) (i : ℕ) → length ds ≤ i → i < n → get_or (resized signed n ds) i X ≡ extension_digit signed ds
get_or-resized_high signed n ds i h k =
    let whole : length (take n ds) ≡ length ds = omega (arith, length-take n ds) in
    get_or-append_right (take n ds) (replicate (n - length ds) (extension_digit signed ds)) (length ds) i X whole h
    ∙ get_or-replicate (n - length ds) (i - length ds) (extension_digit signed ds) X (omega arith)

pub top_is : (w v u : ℕ) → 0 < w → top_digit (digits_of_planes w v u) ≡ digit_of_bits (bit_at v (w - 1)) (bit_at u (w - 1))
top_is w v u h = rw length-digits_of_planes (get_or-digits_of_planes w v u (w - 1) X (omega arith))

pub extension_is : (signed : Bool) (w v u : ℕ) → 0 < w → digit_of_bits (cond signed (bit_at v (w - 1)) 0) (cond signed (bit_at u (w - 1)) 0) ≡ extension_digit signed (digits_of_planes w v u)
extension_is false w v u h = refl
extension_is true w v u h = sym (top_is w v u h)

-- both planes extended are the vector resized
pub resized_is : (signed : Bool) (w v u n v' u' : ℕ) → 0 < w → IsExtended signed w n v v' → IsExtended signed w n u u' → digits_of_planes n v' u' ≡ resized signed n (digits_of_planes w v u)
resized_is signed w v u n v' u' some p q =
    let ds = digits_of_planes w v u in
    let long : length (digits_of_planes w v u) ≡ w = length-digits_of_planes w v u in
    planes_are n v' u' (resized signed n ds) (length-resized signed n ds)
    (λ i h. ⊎_elim
    (λ (k : i < w).
    let within : i < length (digits_of_planes w v u) = rw long k in
    rw (p.low i k h, q.low i k h, get_or-resized_low signed n ds i within h) (sym (get_or-digits_of_planes w v u i X k)))
    (λ (k : w ≤ i).
    let above : length (digits_of_planes w v u) ≤ i = rw long k in
    rw (p.high i k h, q.high i k h, get_or-resized_high signed n ds i above h) (extension_is signed w v u some))
    (cases_lt i w))

-- a plane cut to its low bits is below their power of two
pub masked_below : (n k : ℕ) → bit_and n (2 ^ k - 1) < 2 ^ k
masked_below n k = omega (arith, and_le_r n (2 ^ k - 1), pow_pos k)

-- the ones above the low `from` bits of 64
above_ones : (from i : ℕ) → from ≤ 64 → i < 64 → bit_at (bit_not w64 (2 ^ from - 1)) i ≡ 1 - bit_at (2 ^ from - 1) i
above_ones from i h k = bit_at_not w64 (2 ^ from - 1) i (omega (arith, pow-le-pow_right {n = 2} (omega arith) h, pow_pos from)) k

joined : (plane above to i : ℕ) → i < to → bit_at (bit_and (bit_or plane above) (2 ^ to - 1)) i ≡ max (bit_at plane i) (bit_at above i)
joined plane above to i h =
    bit_at_and (bit_or plane above) (2 ^ to - 1) i
    ∙ rw (bit_at_or plane above i, bit_at_ones to i h) (omega (arith, bit_at-lt plane i, bit_at-lt above i))

-- what the code does where a signed plane has its top bit set
pub filled_with_ones : (signed : Bool) (from to plane : ℕ) → from ≤ 64 → to ≤ 64 → plane < 2 ^ from → (signed && eqb (bit_and (plane / 2 ^ (from - 1)) 1) 1) ≡ true → IsExtended signed from to plane (bit_and (bit_or plane (bit_not w64 (2 ^ from - 1))) (2 ^ to - 1))
filled_with_ones signed from to plane f t b h =
    let parts = and_parts signed (eqb (bit_and (plane / 2 ^ (from - 1)) 1) 1) h in
    let is_signed : signed ≡ true = parts.0 in
    let top : bit_at plane (from - 1) ≡ 1 = sym (shr_and_one plane (from - 1)) ∙ eqb-true (bit_and (plane / 2 ^ (from - 1)) 1) 1 parts.1 in
    record {
      below = masked_below (bit_or plane (bit_not w64 (2 ^ from - 1))) to;
      low = λ i k m.
          joined plane (bit_not w64 (2 ^ from - 1)) to i m
          ∙ rw (above_ones from i f (omega arith), bit_at_ones from i k) (omega (arith, bit_at-lt plane i));
      high = λ i k m.
          joined plane (bit_not w64 (2 ^ from - 1)) to i m
          ∙ rw (above_ones from i f (omega arith), bit_at_ones_above from i k, is_signed, top) (omega (arith, bit_at-lt plane i));
    }

-- what the code does elsewhere
pub filled_with_zeros : (signed : Bool) (from to plane : ℕ) → plane < 2 ^ from → (signed && eqb (bit_and (plane / 2 ^ (from - 1)) 1) 1) ≡ false → IsExtended signed from to plane (bit_and (bit_or plane 0) (2 ^ to - 1))
filled_with_zeros signed from to plane b h = record {
  below = masked_below (bit_or plane 0) to;
  low = λ i k m. joined plane 0 to i m ∙ rw (bit_at-zero i) (omega arith);
  high = λ i k m. joined plane 0 to i m ∙ rw (bit_at-zero i, bit_at_above plane from i b k) (no_fill signed plane (from - 1) h);
} where
  no_fill : (s : Bool) (p n : ℕ) → (s && eqb (bit_and (p / 2 ^ n) 1) 1) ≡ false → max 0 0 ≡ cond s (bit_at p n) 0
  no_fill false p n e = refl
  no_fill true p n e =
      let other : eqb (bit_at p n) 1 ≡ false = rw (← (shr_and_one p n)) e in
      let differs : bit_at p n ≡ 1 → ⊥ = eqb-false (bit_at p n) 1 other in
      omega (arith, bit_at-lt p n, differs)
