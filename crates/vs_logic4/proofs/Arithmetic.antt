-- The arithmetic operators: what the code computes on value planes is the formula on whole numbers.
use Rattle.std.proofs.Common.{◌≡◌, ℕ, ◌+◌, ◌-◌, ◌*◌, ◌%◌, ◌^◌, ◌<◌, ◌≤◌, ℤ, pos, ◌+ℤ◌, ◌-ℤ◌, ◌*ℤ◌, neg_ℤ, Bool, true, false, cond, ◌&&◌, eqb, List, length, bit_or, refl, sym, ap, ◌∙◌, arith}
use borrow.Author.Differences.{up, down, product_is}
use Rattle.std.proofs.lemmas.Bool.{eqb-true}
use Rattle.std.proofs.lemmas.Int.{ints}
use Rattle.std.proofs.lemmas.Nat.{pow-add, le_or_l, le_or_r}
use Rattle.vs_logic4.specs.declared.digit.Digit.{Digit}
use Rattle.vs_logic4.specs.Planes.{digits_of_planes, ArePlanes}
use Rattle.vs_logic4.specs.PlaneLaws.{length-digits_of_planes, of_number_is}
use Rattle.vs_logic4.specs.Vectors.{of_number, all_unknown}
use Rattle.vs_logic4.specs.Comparisons.{is_known}
use Rattle.vs_logic4.specs.Arithmetic.{integer, of_integer, arithmetic, sum_of, difference, product, negation, unary_plus}
use Rattle.vs_logic4.proofs.Bits.{same_width, below_64}
use Rattle.vs_logic4.proofs.Comparisons.{or_both, is_known_is}
use Rattle.vs_logic4.proofs.Numbers.{of_number-wide, of_integer_is, integer_is, sign_bit}

-- a choice whose first part is wanted only where the test holds
cond_same : {A : Type 0} (b : Bool) (x x' y : A) → (b ≡ true → x ≡ x') → cond b x y ≡ cond b x' y
cond_same true x x' y h = h refl
cond_same false x x' y h = refl

-- ---- on whole numbers that are v and v' but for s and t times m
module _ (a b : ℤ) (v v' m s t : ℕ) (e : a +ℤ pos (s * m) ≡ pos v) (e' : b +ℤ pos (t * m) ≡ pos v') where
  sum_law : (a +ℤ b) +ℤ pos ((s + t) * m) ≡ pos (v + v' + 0 * m)
  sum_law = omega (arith, ints)

  difference_law : (p : ℕ) → v' ≤ p * m → (a -ℤ b) +ℤ pos ((s + p) * m) ≡ pos (v + (p * m - v') + t * m)
  difference_law p h = omega (arith, ints)

  product_law : (a *ℤ b) +ℤ pos ((s * v' + t * v) * m) ≡ pos (v * v' + s * t * m * m)
  product_law =
      let left : up a + s * m ≡ v + down a = omega (arith, ints) in
      let right : up b + t * m ≡ v' + down b = omega (arith, ints) in
      omega (arith, ints, product_is a b, ap (λ n. n * up b) left, ap (λ n. n * down b) left, ap (λ n. v * n) right, ap (λ n. s * m * n) right)

negation_law : (a : ℤ) (v m s p : ℕ) → a +ℤ pos (s * m) ≡ pos v → v ≤ p * m → neg_ℤ a +ℤ pos (p * m) ≡ pos (p * m - v + s * m)
negation_law a v m s p e h = omega (arith, ints)

-- 2 ^ 64 is a multiple of the power of a width
multiple_of : (w : ℕ) → w ≤ 64 → 2 ^ 64 ≡ 2 ^ (64 - w) * 2 ^ w
multiple_of w h = ap (λ i. 2 ^ i) (let e : 64 ≡ 64 - w + w = omega arith in e) ∙ pow-add 2 (64 - w) w

-- the number of a vector whose unknown plane is 0
number_of_known : (signed : Bool) (w v u : ℕ) (ds : List Digit) → ArePlanes w v u → digits_of_planes w v u ≡ ds → u ≡ 0 → integer signed ds +ℤ pos (sign_bit signed w v * 2 ^ w) ≡ pos v
number_of_known signed w v u ds p view h = rw (← view, h) (integer_is signed w v p.some p.value_below)

module _ {w v u w' v' u' : ℕ} {ds es : List Digit} (p : ArePlanes w v u) (q : ArePlanes w' v' u') (view : digits_of_planes w v u ≡ ds) (view' : digits_of_planes w' v' u' ≡ es) (long : length ds ≡ length es) where
  same : w' ≡ w
  same = same_width w v u w' v' u' ds es view view' long

  width : length ds ≡ w
  width = sym (ap length view) ∙ length-digits_of_planes w v u

  known : eqb (bit_or u u') 0 ≡ (is_known ds && is_known es)
  known = or_both (is_known ds) (is_known es) u u' (is_known_is p view) (is_known_is q view')

  left_is : (signed : Bool) → eqb (bit_or u u') 0 ≡ true → integer signed ds +ℤ pos (sign_bit signed w v * 2 ^ w) ≡ pos v
  left_is signed h =
      let none : bit_or u u' ≡ 0 = eqb-true (bit_or u u') 0 h in
      number_of_known signed w v u ds p view (omega (arith, le_or_l u u'))

  right_is : (signed : Bool) → eqb (bit_or u u') 0 ≡ true → integer signed es +ℤ pos (sign_bit signed w v' * 2 ^ w) ≡ pos v'
  right_is signed h =
      let none : bit_or u u' ≡ 0 = eqb-true (bit_or u u') 0 h in
      rw same at (number_of_known signed w' v' u' es q view' (omega (arith, le_or_r u u')))

  -- what the code makes of known operands is the formula, if it has its vector
  arithmetic_is : (f : ℤ → ℤ → ℤ) (signed : Bool) (n : ℕ) → (eqb (bit_or u u') 0 ≡ true → of_integer w (f (integer signed ds) (integer signed es)) ≡ of_number w n) → cond (eqb (bit_or u u') 0) (of_number w n) (all_unknown w) ≡ arithmetic f signed ds es
  arithmetic_is f signed n h =
      rw (← known, width)
      (cond_same (eqb (bit_or u u') 0) (of_number w n) (of_integer w (f (integer signed ds) (integer signed es))) (all_unknown w) (λ t. sym (h t)))

  pub sum_is : (signed : Bool) → cond (eqb (bit_or u u') 0) (of_number w ((v + v') % 2 ^ 64)) (all_unknown w) ≡ sum_of signed ds es
  sum_is signed =
      arithmetic_is (λ a b. a +ℤ b) signed ((v + v') % 2 ^ 64) (λ h.
      of_integer_is w (integer signed ds +ℤ integer signed es) (sign_bit signed w v + sign_bit signed w v') 0 (v + v')
      (sum_law (integer signed ds) (integer signed es) v v' (2 ^ w) (sign_bit signed w v) (sign_bit signed w v') (left_is signed h) (right_is signed h))
      ∙ sym (of_number-wide w 64 (v + v') p.most))

  pub difference_is : (signed : Bool) → cond (eqb (bit_or u u') 0) (of_number w ((v + (2 ^ 64 - v')) % 2 ^ 64)) (all_unknown w) ≡ difference signed ds es
  difference_is signed =
      arithmetic_is (λ a b. a -ℤ b) signed ((v + (2 ^ 64 - v')) % 2 ^ 64) (λ h.
      let power = multiple_of w p.most in
      let below : v' < 2 ^ 64 = below_64 w' v' q.most q.value_below in
      let least : v' ≤ 2 ^ (64 - w) * 2 ^ w = rw (← power) (omega arith) in
      of_integer_is w (integer signed ds -ℤ integer signed es) (sign_bit signed w v + 2 ^ (64 - w)) (sign_bit signed w v') (v + (2 ^ (64 - w) * 2 ^ w - v'))
      (difference_law (integer signed ds) (integer signed es) v v' (2 ^ w) (sign_bit signed w v) (sign_bit signed w v') (left_is signed h) (right_is signed h) (2 ^ (64 - w)) least)
      ∙ rw (← power) (sym (of_number-wide w 64 (v + (2 ^ 64 - v')) p.most)))

  pub product_of_is : (signed : Bool) → cond (eqb (bit_or u u') 0) (of_number w ((v * v') % 2 ^ 64)) (all_unknown w) ≡ product signed ds es
  product_of_is signed =
      arithmetic_is (λ a b. a *ℤ b) signed ((v * v') % 2 ^ 64) (λ h.
      of_integer_is w (integer signed ds *ℤ integer signed es) (sign_bit signed w v * v' + sign_bit signed w v' * v) (sign_bit signed w v * sign_bit signed w v' * 2 ^ w) (v * v')
      (product_law (integer signed ds) (integer signed es) v v' (2 ^ w) (sign_bit signed w v) (sign_bit signed w v') (left_is signed h) (right_is signed h))
      ∙ sym (of_number-wide w 64 (v * v') p.most))

module _ {w v u : ℕ} {ds : List Digit} (p : ArePlanes w v u) (view : digits_of_planes w v u ≡ ds) where
  pub negation_is : (signed : Bool) → cond (eqb u 0) (of_number w ((0 + (2 ^ 64 - v)) % 2 ^ 64)) (all_unknown w) ≡ negation signed ds
  negation_is signed =
      let width : length ds ≡ w = sym (ap length view) ∙ length-digits_of_planes w v u in
      let power = multiple_of w p.most in
      let below : v < 2 ^ 64 = below_64 w v p.most p.value_below in
      let least : v ≤ 2 ^ (64 - w) * 2 ^ w = rw (← power) (omega arith) in
      rw (← (is_known_is p view), width)
      (cond_same (eqb u 0) (of_number w ((0 + (2 ^ 64 - v)) % 2 ^ 64)) (of_integer w (neg_ℤ (integer signed ds))) (all_unknown w) (λ t. sym (
      let whole = number_of_known signed w v u ds p view (eqb-true u 0 t) in
      of_integer_is w (neg_ℤ (integer signed ds)) (2 ^ (64 - w)) (sign_bit signed w v) (2 ^ (64 - w) * 2 ^ w - v)
      (negation_law (integer signed ds) v (2 ^ w) (sign_bit signed w v) (2 ^ (64 - w)) whole least)
      ∙ rw (← power) (ap (of_number w) (let e : 2 ^ 64 - v ≡ 0 + (2 ^ 64 - v) = omega arith in e) ∙ sym (of_number-wide w 64 (0 + (2 ^ 64 - v)) p.most)))))

  pub unary_plus_is : cond (eqb u 0) (of_number w v) (all_unknown w) ≡ unary_plus ds
  unary_plus_is =
      let width : length ds ≡ w = sym (ap length view) ∙ length-digits_of_planes w v u in
      rw (← (is_known_is p view), width)
      (cond_same (eqb u 0) (of_number w v) ds (all_unknown w) (λ t.
      sym (of_number_is w v) ∙ rw (← view, eqb-true u 0 t) refl))
