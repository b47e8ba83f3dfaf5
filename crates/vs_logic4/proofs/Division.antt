-- Division and remainder: what the code computes on magnitudes and signs is the formula on whole numbers.
use Rattle.std.proofs.Common.{◌≡◌, ℕ, ◌-◌, ◌/◌, ◌%◌, ◌^◌, ◌<◌, ◌≤◌, ℤ, int_div, int_rem, Bool, true, false, not, cond, ◌&&◌, eqb, List, length, bit_or, refl, sym, ap, ◌∙◌, ⊎_elim, arith}
use mathlib.Core.Bool.{beq}
use Rattle.std.proofs.lemmas.Bool.{eqb-true, eqb-false, and_parts, and_cases, not-true, not-false, cases_Bool, eq-eqb}
use Rattle.std.proofs.lemmas.Nat.{le_or_l, le_or_r}
use Rattle.std.proofs.Math.Nat.{div-le_self, mod-le}
use Rattle.vs_logic4.specs.declared.digit.Digit.{Digit}
use Rattle.vs_logic4.specs.Planes.{digits_of_planes, ArePlanes}
use Rattle.vs_logic4.specs.PlaneLaws.{length-digits_of_planes}
use Rattle.vs_logic4.specs.Vectors.{of_number, all_unknown}
use Rattle.vs_logic4.specs.Comparisons.{is_known}
use Rattle.vs_logic4.specs.Arithmetic.{number, integer, of_integer, division, quotient, remainder}
use Rattle.vs_logic4.proofs.Comparisons.{or_both, is_known_is}
use Rattle.vs_logic4.proofs.Numbers.{number_is}
use Rattle.vs_logic4.proofs.Signs.{signed_value, negative, magnitude_of, integer_by_sign, magnitude_of-le, magnitude_of-pos, quot_signed, rem_signed, of_integer-signed_value}

both : {A : Type 0} (b : Bool) (x : A) → cond b x x ≡ x
both true x = refl
both false x = refl

by_sign : (signed : Bool) (w v u : ℕ) (ds : List Digit) → ArePlanes w v u → digits_of_planes w v u ≡ ds → u ≡ 0 → integer signed ds ≡ signed_value (negative signed w v) (magnitude_of signed w v)
by_sign signed w v u ds p view h = rw (← view, h) (integer_by_sign signed w v p.some p.value_below)

module _ {w v u w' v' u' : ℕ} {ds es : List Digit} (p : ArePlanes w v u) (q : ArePlanes w' v' u') (view : digits_of_planes w v u ≡ ds) (view' : digits_of_planes w' v' u' ≡ es) (long : length ds ≡ length es) where
  width : length ds ≡ w
  width = sym (ap length view) ∙ length-digits_of_planes w v u

  known : eqb (bit_or u u') 0 ≡ (is_known ds && is_known es)
  known = or_both (is_known ds) (is_known es) u u' (is_known_is p view) (is_known_is q view')

  no_unknown : eqb (bit_or u u') 0 ≡ true → (u ≡ 0) × (u' ≡ 0)
  no_unknown h =
      let none : bit_or u u' ≡ 0 = eqb-true (bit_or u u') 0 h in
      (omega (arith, le_or_l u u'), omega (arith, le_or_r u u'))

  divisor : u' ≡ 0 → number es ≡ v'
  divisor h = rw (← view', h) (number_is w' v' q.value_below)

  -- known operands and a divisor that isn't 0
  divided : (f : ℤ → ℤ → ℤ) (signed : Bool) → (eqb (bit_or u u') 0 && not (eqb v' 0)) ≡ true → division f signed ds es ≡ of_integer w (f (integer signed ds) (integer signed es))
  divided f signed h =
      let parts = and_parts (eqb (bit_or u u') 0) (not (eqb v' 0)) h in
      let none = no_unknown parts.0 in
      let nonzero : eqb v' 0 ≡ false = not-true (eqb v' 0) parts.1 in
      let right : is_known es ≡ true = sym (is_known_is q view') ∙ eq-eqb u' 0 none.1 in
      let left : is_known ds ≡ true = sym (is_known_is p view) ∙ eq-eqb u 0 none.0 in
      rw (right, divisor none.1, nonzero, left, width) refl

  undivided : (f : ℤ → ℤ → ℤ) (signed : Bool) → (eqb (bit_or u u') 0 && not (eqb v' 0)) ≡ false → all_unknown w ≡ division f signed ds es
  undivided f signed h = ⊎_elim
      (λ k.
      let none = no_unknown k in
      let zero_divisor : not (eqb v' 0) ≡ false = ⊎_elim (λ e. cc) (λ e. e) (and_cases (eqb (bit_or u u') 0) (not (eqb v' 0)) h) in
      let right : is_known es ≡ true = sym (is_known_is q view') ∙ eq-eqb u' 0 none.1 in
      rw (right, divisor none.1, not-false (eqb v' 0) zero_divisor, width) refl)
      (λ k.
      let unknown : (is_known ds && is_known es) ≡ false = sym known ∙ k in
      rw (unknown, width) (sym (both (is_known es && eqb (number es) 0) (all_unknown w))))
      (cases_Bool (eqb (bit_or u u') 0))

  pub quotient_is : (signed : Bool) → (eqb (bit_or u u') 0 && not (eqb v' 0)) ≡ true → of_number w (cond (not (beq (negative signed w v) (negative signed w' v'))) ((2 ^ 64 - magnitude_of signed w v / magnitude_of signed w' v') % 2 ^ 64) (magnitude_of signed w v / magnitude_of signed w' v')) ≡ quotient signed ds es
  quotient_is signed h =
      let parts = and_parts (eqb (bit_or u u') 0) (not (eqb v' 0)) h in
      let none = no_unknown parts.0 in
      let nonzero : v' ≡ 0 → ⊥ = eqb-false v' 0 (not-true (eqb v' 0) parts.1) in
      let m = magnitude_of signed w v in
      let m' = magnitude_of signed w' v' in
      let some : 0 < magnitude_of signed w' v' = magnitude_of-pos signed w' v' q.value_below (omega arith) in
      let few : magnitude_of signed w v / magnitude_of signed w' v' ≤ 2 ^ 64 = omega (arith, div-le_self m m', magnitude_of-le signed w v p.most p.value_below) in
      sym (divided int_div signed h
      ∙ rw (by_sign signed w v u ds p view none.0, by_sign signed w' v' u' es q view' none.1, quot_signed (negative signed w v) (negative signed w' v') m m' some)
      (of_integer-signed_value w (not (beq (negative signed w v) (negative signed w' v'))) (m / m') p.most few))

  pub no_quotient : (signed : Bool) → (eqb (bit_or u u') 0 && not (eqb v' 0)) ≡ false → all_unknown w ≡ quotient signed ds es
  no_quotient signed h = undivided int_div signed h

  pub remainder_is : (signed : Bool) → (eqb (bit_or u u') 0 && not (eqb v' 0)) ≡ true → of_number w (cond (negative signed w v) ((2 ^ 64 - magnitude_of signed w v % magnitude_of signed w' v') % 2 ^ 64) (magnitude_of signed w v % magnitude_of signed w' v')) ≡ remainder signed ds es
  remainder_is signed h =
      let parts = and_parts (eqb (bit_or u u') 0) (not (eqb v' 0)) h in
      let none = no_unknown parts.0 in
      let nonzero : v' ≡ 0 → ⊥ = eqb-false v' 0 (not-true (eqb v' 0) parts.1) in
      let m = magnitude_of signed w v in
      let m' = magnitude_of signed w' v' in
      let some : 0 < magnitude_of signed w' v' = magnitude_of-pos signed w' v' q.value_below (omega arith) in
      let few : magnitude_of signed w v % magnitude_of signed w' v' ≤ 2 ^ 64 = omega (arith, mod-le m m', magnitude_of-le signed w v p.most p.value_below) in
      sym (divided int_rem signed h
      ∙ rw (by_sign signed w v u ds p view none.0, by_sign signed w' v' u' es q view' none.1, rem_signed (negative signed w v) (negative signed w' v') m m' some)
      (of_integer-signed_value w (negative signed w v) (m % m') p.most few))

  pub no_remainder : (signed : Bool) → (eqb (bit_or u u') 0 && not (eqb v' 0)) ≡ false → all_unknown w ≡ remainder signed ds es
  no_remainder signed h = undivided int_rem signed h
