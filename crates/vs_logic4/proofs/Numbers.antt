-- Vectors and the whole numbers that they stand for.
use Rattle.std.proofs.Common.{◌≡◌, ℕ, zero, suc, ◌+◌, ◌-◌, ◌*◌, ◌/◌, ◌%◌, ◌^◌, ◌<◌, ◌≤◌, ℤ, pos, ◌+ℤ◌, ◌-ℤ◌, Bool, true, false, cond, eqb, List, [], ◌∷◌, length, refl, sym, ap, ◌∙◌, arith}
use Rattle.std.specs.Int.{bit_at, int_rem_euclid}
use Rattle.std.proofs.Math.Nat.{pow-succ', add-mul-mod_self_right}
use Rattle.std.proofs.lemmas.Bool.{and_parts}
use Rattle.std.proofs.lemmas.Nat.{mod-pow-add, pow_pos, pow-add, shr_split}
use Rattle.std.proofs.lemmas.Nat.Bits.{bit_at-lt, bit_at-zero}
use Rattle.std.proofs.lemmas.Int.{int_rem_euclid_is, ints}
use Rattle.vs_logic4.specs.declared.digit.Digit.{Digit}
use Rattle.vs_logic4.specs.declared.digit.Digit.TheVariants.{Zero, One, X, Z}
use Rattle.vs_logic4.specs.Planes.{digit_of_bits, digits_of_planes}
use Rattle.vs_logic4.specs.PlaneLaws.{at_bit, length-digits_of_planes}
use Rattle.vs_logic4.specs.Extensions.{top_is}
use Rattle.vs_logic4.specs.Vectors.{same_digit, digit_of_bit, of_number}
use Rattle.vs_logic4.specs.Tables.{is_known_digit}
use Rattle.vs_logic4.specs.Comparisons.{is_known}
use Rattle.vs_logic4.specs.Arithmetic.{bit_of, number, signed_number, integer, of_integer}
use Rattle.vs_logic4.proofs.Positions.{half_below}

bit_of_known : (b : ℕ) → b < 2 → bit_of (digit_of_bits b 0) ≡ b
bit_of_known b h = at_bit (λ n. bit_of (digit_of_bits n 0) ≡ n) refl refl b h

-- the number of a vector whose unknown plane is 0 is its value plane
pub number_is : (w v : ℕ) → v < 2 ^ w → number (digits_of_planes w v 0) ≡ v
number_is zero v h = omega arith
number_is (suc w) v h =
    let bit = bit_of_known (v % 2) (omega arith) in
    let rest = number_is w (v / 2) (half_below w v h) in
    omega (arith, bit, rest)

pub bit_of-lt : (d : Digit) → bit_of d < 2
bit_of-lt Zero = omega arith
bit_of-lt One = omega arith
bit_of-lt X = omega arith
bit_of-lt Z = omega arith

pub number-lt : (ds : List Digit) → number ds < 2 ^ length ds
number-lt [] = omega arith
number-lt (d ∷ ds) = omega (arith, bit_of-lt d, number-lt ds, pow-succ' 2 (length ds))

digit_of_known : (d : Digit) → is_known_digit d ≡ true → digit_of_bit (bit_of d) ≡ d
digit_of_known Zero h = refl
digit_of_known One h = refl
digit_of_known X h = cc
digit_of_known Z h = cc

-- a vector without unknown digits is its number
pub of_number-number : (ds : List Digit) → is_known ds ≡ true → of_number (length ds) (number ds) ≡ ds
of_number-number [] h = refl
of_number-number (d ∷ ds) h =
    let parts = and_parts (is_known_digit d) (is_known ds) h in
    let low : (bit_of d + 2 * number ds) % 2 ≡ bit_of d = omega (arith, bit_of-lt d) in
    let high : (bit_of d + 2 * number ds) / 2 ≡ number ds = omega (arith, bit_of-lt d) in
    rw (low, high, digit_of_known d parts.0, of_number-number ds parts.1) refl

bit_of-digit_of_bit : (b : ℕ) → b < 2 → bit_of (digit_of_bit b) ≡ b
bit_of-digit_of_bit b h = at_bit (λ n. bit_of (digit_of_bit n) ≡ n) refl refl b h

known_bit : (b : ℕ) → b < 2 → is_known_digit (digit_of_bit b) ≡ true
known_bit b h = at_bit (λ n. is_known_digit (digit_of_bit n) ≡ true) refl refl b h

-- a number's vector has no unknown digit
pub is_known-of_number : (w n : ℕ) → is_known (of_number w n) ≡ true
is_known-of_number zero n = refl
is_known-of_number (suc w) n = rw (known_bit (n % 2) (omega arith), is_known-of_number w (n / 2)) refl

-- a number's vector stands for the number, wrapped to the width
pub number-of_number : (w n : ℕ) → number (of_number w n) ≡ n % 2 ^ w
number-of_number zero n = omega arith
number-of_number (suc w) n =
    let bit = bit_of-digit_of_bit (n % 2) (omega arith) in
    let rest = number-of_number w (n / 2) in
    let whole = mod-pow-add n w 1 in
    let power : 2 ^ (w + 1) ≡ 2 ^ suc w = ap (λ k. 2 ^ k) (omega arith) in
    rw (bit, rest, ← power, whole) (omega arith)

-- the vector of a number has the number wrapped to the width
of_number-wrapped : (w n : ℕ) → of_number w (n % 2 ^ w) ≡ of_number w n
of_number-wrapped zero n = refl
of_number-wrapped (suc w) n =
    let power : 2 ^ (w + 1) ≡ 2 ^ suc w = ap (λ k. 2 ^ k) (omega arith) in
    let whole : n % 2 ^ suc w ≡ n / 2 % 2 ^ w * 2 + n % 2 = rw (← power) (mod-pow-add n w 1) in
    let low : n % 2 ^ suc w % 2 ≡ n % 2 = omega (arith, whole) in
    let high : n % 2 ^ suc w / 2 ≡ n / 2 % 2 ^ w = omega (arith, whole) in
    rw (low, high, of_number-wrapped w (n / 2)) refl

-- to add a multiple of the power changes nothing
pub of_number-multiple : (w n j : ℕ) → of_number w (n + j * 2 ^ w) ≡ of_number w n
of_number-multiple w n j =
    let same = add-mul-mod_self_right n j (2 ^ w) in
    sym (of_number-wrapped w (n + j * 2 ^ w)) ∙ rw same (of_number-wrapped w n)

-- to wrap at a larger width first changes nothing
pub of_number-wide : (w k n : ℕ) → w ≤ k → of_number w (n % 2 ^ k) ≡ of_number w n
of_number-wide w k n h =
    let power : 2 ^ k ≡ 2 ^ (k - w) * 2 ^ w = ap (λ i. 2 ^ i) (omega arith) ∙ pow-add 2 (k - w) w in
    let high = ap (λ p. n / 2 ^ k * p) power in
    let whole : n ≡ n % 2 ^ k + n / 2 ^ k * 2 ^ (k - w) * 2 ^ w = omega (arith, shr_split n k, high) in
    sym (ap (of_number w) whole ∙ of_number-multiple w (n % 2 ^ k) (n / 2 ^ k * 2 ^ (k - w)))

-- a whole number that is m but for multiples of the power has the vector of m
pub of_integer_is : (w : ℕ) (z : ℤ) (k j m : ℕ) → z +ℤ pos (k * 2 ^ w) ≡ pos (m + j * 2 ^ w) → of_integer w z ≡ of_number w m
of_integer_is w z k j m e =
    let residue : int_rem_euclid z (pos (2 ^ w)) ≡ pos ((m + j * 2 ^ w) % 2 ^ w) = int_rem_euclid_is z (pos (2 ^ w)) (2 ^ w) k (m + j * 2 ^ w) (pow_pos w) refl e in
    rw residue (of_number-wrapped w (m + j * 2 ^ w) ∙ of_number-multiple w m j)

-- 1 where a signed vector is negative
abbrev pub sign_bit : Bool → ℕ → ℕ → ℕ
sign_bit signed w v = cond signed (bit_at v (w - 1)) 0

known_one : (b : ℕ) → b < 2 → same_digit (digit_of_bits b 0) One ≡ eqb b 1
known_one b h = at_bit (λ n. same_digit (digit_of_bits n 0) One ≡ eqb n 1) refl refl b h

-- the signed number of a vector whose unknown plane is 0
pub signed_number_is : (w v : ℕ) → 0 < w → v < 2 ^ w → signed_number (digits_of_planes w v 0) ≡ cond (eqb (bit_at v (w - 1)) 1) (pos v -ℤ pos (2 ^ w)) (pos v)
signed_number_is w v some h =
    rw (top_is w v 0 some, number_is w v h, length-digits_of_planes w v 0, bit_at-zero (w - 1), known_one (bit_at v (w - 1)) (bit_at-lt v (w - 1))) refl

-- a vector's number is its value plane, but for the power where it is negative
pub integer_is : (signed : Bool) (w v : ℕ) → 0 < w → v < 2 ^ w → integer signed (digits_of_planes w v 0) +ℤ pos (sign_bit signed w v * 2 ^ w) ≡ pos v
integer_is false w v some h = rw (number_is w v h) (ap pos (omega arith))
integer_is true w v some h =
    rw (signed_number_is w v some h)
    (at_bit (λ b. cond (eqb b 1) (pos v -ℤ pos (2 ^ w)) (pos v) +ℤ pos (b * 2 ^ w) ≡ pos v)
    (omega (arith, ints)) (omega (arith, ints)) (bit_at v (w - 1)) (bit_at-lt v (w - 1)))
