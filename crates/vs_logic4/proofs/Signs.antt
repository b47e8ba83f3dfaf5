-- A vector's signed number by its sign and its magnitude.
use Rattle.std.proofs.Common.{◌≡◌, ℕ, zero, suc, ◌+◌, ◌-◌, ◌*◌, ◌/◌, ◌%◌, ◌^◌, ◌<◌, ◌≤◌, ℤ, pos, ◌+ℤ◌, ◌-ℤ◌, neg_ℤ, int_div, int_rem, Bool, true, false, not, cond, ◌&&◌, eqb, refl, sym, ap, ◌∙◌, arith}
use mathlib.Core.Bool.{beq}
use Rattle.std.specs.Int.{bit_at}
use Rattle.std.proofs.lemmas.Int.{ints}
use Rattle.std.proofs.lemmas.Nat.{pow-add, shr_split, mod_below, pow_pos, div_below}
use Rattle.std.proofs.Math.Nat.{zero-div, pow-le-pow_right, zero-mod}
use Rattle.vs_logic4.specs.Planes.{digits_of_planes}
use Rattle.vs_logic4.specs.Vectors.{of_number}
use Rattle.vs_logic4.specs.Arithmetic.{integer, of_integer}
use Rattle.vs_logic4.proofs.Numbers.{number_is, signed_number_is, of_integer_is, of_number-wide}

-- the whole number of a sign and a magnitude
abbrev pub signed_value : Bool → ℕ → ℤ
signed_value true n = neg_ℤ (pos n)
signed_value false n = pos n

-- a number of w bits is negative
abbrev pub negative : Bool → ℕ → ℕ → Bool
negative signed w v = signed && eqb (bit_at v (w - 1)) 1

-- its magnitude
abbrev pub magnitude_of : Bool → ℕ → ℕ → ℕ
magnitude_of signed w v = cond (negative signed w v) (2 ^ w - v) v

by_sign : (n : Bool) (v m : ℕ) → v < m → cond n (pos v -ℤ pos m) (pos v) ≡ signed_value n (cond n (m - v) v)
by_sign true v m h = omega (arith, ints)
by_sign false v m h = refl

pub integer_by_sign : (signed : Bool) (w v : ℕ) → 0 < w → v < 2 ^ w → integer signed (digits_of_planes w v 0) ≡ signed_value (negative signed w v) (magnitude_of signed w v)
integer_by_sign false w v some h = ap pos (number_is w v h)
integer_by_sign true w v some h = signed_number_is w v some h ∙ by_sign (eqb (bit_at v (w - 1)) 1) v (2 ^ w) h

at_most : (n : Bool) (v m : ℕ) → v < m → cond n (m - v) v ≤ m
at_most true v m h = omega arith
at_most false v m h = omega arith

pub magnitude_of-le : (signed : Bool) (w v : ℕ) → w ≤ 64 → v < 2 ^ w → magnitude_of signed w v ≤ 2 ^ 64
magnitude_of-le signed w v most h =
    omega (arith, at_most (negative signed w v) v (2 ^ w) h, pow-le-pow_right {n = 2} (omega arith) most)

positive : (n : Bool) (v m : ℕ) → v < m → 0 < v → 0 < cond n (m - v) v
positive true v m h k = omega arith
positive false v m h k = k

pub magnitude_of-pos : (signed : Bool) (w v : ℕ) → v < 2 ^ w → 0 < v → 0 < magnitude_of signed w v
magnitude_of-pos signed w v h k = positive (negative signed w v) v (2 ^ w) h k

-- the quotient by magnitudes, toward zero
pub quot_signed : (n n' : Bool) (a b : ℕ) → 0 < b → int_div (signed_value n a) (signed_value n' b) ≡ signed_value (not (beq n n')) (a / b)
quot_signed n n' a zero h = absurd (omega arith)
quot_signed false false a (suc b) h = refl
quot_signed false true a (suc b) h = refl
quot_signed true false zero (suc b) h = rw (zero-div (suc b)) refl
quot_signed true false (suc a) (suc b) h = refl
quot_signed true true zero (suc b) h = rw (zero-div (suc b)) refl
quot_signed true true (suc a) (suc b) h = refl

-- the remainder by magnitudes, with the sign of the dividend
pub rem_signed : (n n' : Bool) (a b : ℕ) → 0 < b → int_rem (signed_value n a) (signed_value n' b) ≡ signed_value n (a % b)
rem_signed n n' a zero h = absurd (omega arith)
rem_signed false false a (suc b) h = refl
rem_signed false true a (suc b) h = refl
rem_signed true false zero (suc b) h = rw (zero-mod (suc b)) refl
rem_signed true false (suc a) (suc b) h = refl
rem_signed true true zero (suc b) h = rw (zero-mod (suc b)) refl
rem_signed true true (suc a) (suc b) h = refl

-- the vector of a sign and a magnitude, from the number wrapped to 64 bits
pub of_integer-signed_value : (w : ℕ) (n : Bool) (q : ℕ) → w ≤ 64 → q ≤ 2 ^ 64 → of_integer w (signed_value n q) ≡ of_number w (cond n ((2 ^ 64 - q) % 2 ^ 64) q)
of_integer-signed_value w false q most h =
    of_integer_is w (pos q) 0 0 q (ap pos (omega arith))
of_integer-signed_value w true q most h =
    let power : 2 ^ 64 ≡ 2 ^ (64 - w) * 2 ^ w = ap (λ i. 2 ^ i) (let e : 64 ≡ 64 - w + w = omega arith in e) ∙ pow-add 2 (64 - w) w in
    let whole : neg_ℤ (pos q) +ℤ pos (2 ^ (64 - w) * 2 ^ w) ≡ pos (2 ^ 64 - q + 0 * 2 ^ w) = rw (← power) (omega (arith, ints)) in
    of_integer_is w (neg_ℤ (pos q)) (2 ^ (64 - w)) 0 (2 ^ 64 - q) whole
    ∙ sym (of_number-wide w 64 (2 ^ 64 - q) most)

-- the top bit of a number of w bits, and what is below it
pub record Split (w v : ℕ) : Type 0 where
  pub rest : ℕ
  pub below : rest < 2 ^ (w - 1)
  pub whole : v ≡ bit_at v (w - 1) * 2 ^ (w - 1) + rest
  pub doubled : 2 ^ w ≡ 2 ^ (w - 1) + 2 ^ (w - 1)

pub split : (w v : ℕ) → 0 < w → v < 2 ^ w → Split w v
split w v some h =
    let doubled : 2 ^ w ≡ 2 ^ (w - 1) + 2 ^ (w - 1) = ap (λ i. 2 ^ i) (let e : w ≡ w - 1 + 1 = omega arith in e) ∙ pow-add 2 (w - 1) 1 ∙ omega arith in
    let few : v / 2 ^ (w - 1) < 2 = div_below v (2 ^ (w - 1)) 2 (pow_pos (w - 1)) (omega arith) in
    let one : bit_at v (w - 1) ≡ v / 2 ^ (w - 1) = omega arith in
    record {
      rest = v % 2 ^ (w - 1);
      below = mod_below v (2 ^ (w - 1)) (pow_pos (w - 1));
      whole = rw one (sym (shr_split v (w - 1)));
      doubled = doubled;
    }
