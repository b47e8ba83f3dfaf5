-- The order of vectors, and their conversions to numbers.
use Rattle.std.proofs.Common.{◌≡◌, ℕ, zero, suc, ◌+◌, ◌-◌, ◌*◌, ◌%◌, ◌^◌, ◌<◌, ◌≤◌, ℤ, pos, negsuc, ◌+ℤ◌, int_lt, Bool, true, false, cond, eqb, ltb, Some, None, List, length, bit_or, refl, sym, ap, ◌∙◌, arith, w64}
use mir.Val.{SFits, to_z, of_z}
use Rattle.std.specs.Int.{bit_at}
use Rattle.std.specs.Int.RustNames.{bit_xor}
use Rattle.std.proofs.lemmas.Bool.{eqb-true, eq-eqb, ne_eqb, lt-ltb, ltb-true}
use Rattle.std.proofs.lemmas.Int.{ints, to_z-of_z, to_z_pos}
use Rattle.std.proofs.lemmas.Nat.{xor_block, xor_comm, le_or_l, le_or_r, pow-add, pow_pos}
use Rattle.std.proofs.lemmas.Nat.Bits.{bit_at-lt}
use Rattle.std.proofs.Math.Nat.{pow-le-pow_right}
use Rattle.vs_logic4.specs.declared.digit.Digit.{Digit}
use Rattle.vs_logic4.specs.declared.digit.Digit.TheVariants.{X}
use Rattle.vs_logic4.specs.Planes.{digits_of_planes, ArePlanes}
use Rattle.vs_logic4.specs.PlaneLaws.{at_bit}
use Rattle.vs_logic4.specs.Vectors.{of_number}
use Rattle.vs_logic4.specs.Tables.{digit_of_test}
use Rattle.vs_logic4.specs.Comparisons.{is_known}
use Rattle.vs_logic4.specs.Arithmetic.{number, integer, of_integer, signed_number, less_than, known_number, known_signed_number}
use Rattle.vs_logic4.proofs.Bits.{same_width}
use Rattle.vs_logic4.proofs.Basics.{same_tests}
use Rattle.vs_logic4.proofs.Comparisons.{or_both, is_known_is}
use Rattle.vs_logic4.proofs.Numbers.{number_is, integer_is, of_integer_is}
use Rattle.vs_logic4.proofs.Signs.{signed_value, negative, magnitude_of, integer_by_sign, split}

-- what is added to make signed numbers natural: half the power of the width
abbrev pub half : Bool → ℕ → ℕ
half signed w = cond signed (2 ^ (w - 1)) 0

xor_zero : (n : ℕ) → bit_xor n 0 ≡ n
xor_zero n = xor_comm n 0

-- the top bit flipped adds half the power where it was 0 and takes it where it was 1
flipped : (b k r : ℕ) → b < 2 → r < 2 ^ k → bit_xor (b * 2 ^ k + r) (2 ^ k) + b * (2 ^ k + 2 ^ k) ≡ b * 2 ^ k + r + 2 ^ k
flipped b k r few below =
    let one : 2 ^ k ≡ 1 * 2 ^ k + 0 = omega arith in
    let turned : bit_xor b 1 ≡ 1 - b = at_bit (λ n. bit_xor n 1 ≡ 1 - n) refl refl b few in
    let value : bit_xor (b * 2 ^ k + r) (2 ^ k) ≡ (1 - b) * 2 ^ k + r =
    ap (bit_xor (b * 2 ^ k + r)) one ∙ xor_block k b 1 r 0 below (pow_pos k) ∙ rw (turned, xor_zero r) refl in
    rw value (at_bit (λ n. (1 - n) * 2 ^ k + r + n * (2 ^ k + 2 ^ k) ≡ n * 2 ^ k + r + 2 ^ k) (omega arith) (omega arith) b few)

excess : (signed : Bool) (w v : ℕ) → 0 < w → v < 2 ^ w → integer signed (digits_of_planes w v 0) +ℤ pos (half signed w) ≡ pos (bit_xor v (half signed w))
excess false w v some h = rw (number_is w v h, xor_zero v) (ap pos (omega arith))
excess true w v some h =
    let s = split w v some h in
    let whole = integer_is true w v some h in
    let turn = flipped (bit_at v (w - 1)) (w - 1) s.rest (bit_at-lt v (w - 1)) s.below in
    let turned = ap (λ n. bit_xor n (2 ^ (w - 1))) s.whole in
    let doubled = ap (λ n. bit_at v (w - 1) * n) s.doubled in
    let bits : v ≡ bit_at v (w - 1) * 2 ^ (w - 1) + s.rest = s.whole in
    omega (arith, ints, whole, turn, turned, doubled, bits)

lt_excess : (a b : ℤ) (x y k : ℕ) → a +ℤ pos k ≡ pos x → b +ℤ pos k ≡ pos y → ltb x y ≡ int_lt a b
lt_excess a b x y k e f =
    same_tests (ltb x y) (int_lt a b)
    (λ h. let below : x < y = ltb-true x y h in sym (let g : true ≡ int_lt a b = omega (arith, ints) in g))
    (λ h. lt-ltb x y (omega (arith, ints)))

-- ---- on the planes of two vectors
excess_of : (signed : Bool) (w v u : ℕ) (ds : List Digit) → ArePlanes w v u → digits_of_planes w v u ≡ ds → u ≡ 0 → integer signed ds +ℤ pos (half signed w) ≡ pos (bit_xor v (half signed w))
excess_of signed w v u ds p view h = rw (← view, h) (excess signed w v p.some p.value_below)

test_same : (k : Bool) (s t : Bool) → (k ≡ true → s ≡ t) → cond k (digit_of_test s) X ≡ cond k (digit_of_test t) X
test_same true s t h = ap digit_of_test (h refl)
test_same false s t h = refl

module _ {w v u w' v' u' : ℕ} {ds es : List Digit} (p : ArePlanes w v u) (q : ArePlanes w' v' u') (view : digits_of_planes w v u ≡ ds) (view' : digits_of_planes w' v' u' ≡ es) (long : length ds ≡ length es) where
  pub less_is : (signed : Bool) (flip : ℕ) → flip ≡ half signed w → cond (eqb (bit_or u u') 0) (digit_of_test (ltb (bit_xor v flip) (bit_xor v' flip))) X ≡ less_than signed ds es
  less_is signed flip e =
      let same : w' ≡ w = same_width w v u w' v' u' ds es view view' long in
      let known = or_both (is_known ds) (is_known es) u u' (is_known_is p view) (is_known_is q view') in
      rw (e, ← known)
      (test_same (eqb (bit_or u u') 0) (ltb (bit_xor v (half signed w)) (bit_xor v' (half signed w))) (int_lt (integer signed ds) (integer signed es))
      (λ h.
      let none : bit_or u u' ≡ 0 = eqb-true (bit_or u u') 0 h in
      let left = excess_of signed w v u ds p view (omega (arith, le_or_l u u')) in
      let right : integer signed es +ℤ pos (half signed w) ≡ pos (bit_xor v' (half signed w)) =
      rw same at (excess_of signed w' v' u' es q view' (omega (arith, le_or_r u u'))) in
      lt_excess (integer signed ds) (integer signed es) (bit_xor v (half signed w)) (bit_xor v' (half signed w)) (half signed w) left right))

-- the number of a sign and a magnitude, from 64 bits
signed_back : (n : Bool) (m : ℕ) → cond n (m ≤ 2 ^ 63) (m < 2 ^ 63) → to_z w64 (cond n ((2 ^ 64 - m) % 2 ^ 64) m) ≡ signed_value n m
signed_back true zero h = refl
signed_back true (suc k) h =
    let few : suc k ≤ 2 ^ 63 = h in
    let whole : (2 ^ 64 - suc k) % 2 ^ 64 ≡ 2 ^ 64 - suc k = omega arith in
    rw whole (to_z-of_z w64 (negsuc k) (record { sfits = omega arith }))
signed_back false m h = to_z_pos w64 m h

-- the magnitude of a number of at most 64 bits: at most 2 ^ 63, and below it where the number isn't negative
magnitude_fits : (w v : ℕ) → 0 < w → w ≤ 64 → v < 2 ^ w → cond (negative true w v) (magnitude_of true w v ≤ 2 ^ 63) (magnitude_of true w v < 2 ^ 63)
magnitude_fits w v some most h =
    let s = split w v some h in
    let few : w - 1 ≤ 63 = omega arith in
    let half_most : 2 ^ (w - 1) ≤ 2 ^ 63 = pow-le-pow_right {n = 2} (omega arith) few in
    at_bit
    (λ b. v ≡ b * 2 ^ (w - 1) + s.rest → cond (eqb b 1) (cond (eqb b 1) (2 ^ w - v) v ≤ 2 ^ 63) (cond (eqb b 1) (2 ^ w - v) v < 2 ^ 63))
    (λ e. omega (arith, s.below)) (λ e. omega (arith, s.doubled)) (bit_at v (w - 1)) (bit_at-lt v (w - 1)) s.whole

module _ {w v u : ℕ} {ds : List Digit} (p : ArePlanes w v u) (view : digits_of_planes w v u ≡ ds) where
  pub known_number_some : u ≡ 0 → Some v ≡ known_number ds
  known_number_some h =
      let known : is_known ds ≡ true = sym (is_known_is p view) ∙ eq-eqb u 0 h in
      let value : number ds ≡ v = rw (← view, h) (number_is w v p.value_below) in
      rw (known, value) refl

  pub known_number_none : (u ≡ 0 → ⊥) → None ≡ known_number ds
  known_number_none h =
      let unknown : is_known ds ≡ false = sym (is_known_is p view) ∙ ne_eqb u 0 h in
      rw unknown refl

  pub known_signed_number_none : (u ≡ 0 → ⊥) → None ≡ known_signed_number ds
  known_signed_number_none h =
      let unknown : is_known ds ≡ false = sym (is_known_is p view) ∙ ne_eqb u 0 h in
      rw unknown refl

  pub known_signed_number_some : u ≡ 0 → Some (to_z w64 (cond (negative true w v) ((2 ^ 64 - magnitude_of true w v) % 2 ^ 64) (magnitude_of true w v))) ≡ known_signed_number ds
  known_signed_number_some h =
      let known : is_known ds ≡ true = sym (is_known_is p view) ∙ eq-eqb u 0 h in
      let value : signed_number ds ≡ signed_value (negative true w v) (magnitude_of true w v) = rw (← view, h) (integer_by_sign true w v p.some p.value_below) in
      rw (known, value) (ap Some (signed_back (negative true w v) (magnitude_of true w v) (magnitude_fits w v p.some p.most p.value_below)))

-- the bits of a signed number are its vector
pub of_integer-signed : (w : ℕ) (z : ℤ) → w ≤ 64 → SFits w64 z → of_integer w z ≡ of_number w (of_z w64 z)
of_integer-signed w (pos n) most h = of_integer_is w (pos n) 0 0 n (ap pos (omega arith))
of_integer-signed w (negsuc n) most h =
    let power : 2 ^ 64 ≡ 2 ^ (64 - w) * 2 ^ w = ap (λ i. 2 ^ i) (let e : 64 ≡ 64 - w + w = omega arith in e) ∙ pow-add 2 (64 - w) w in
    let fits = h.sfits in
    let within : suc n ≤ 2 ^ (64 - w) * 2 ^ w = rw (← power) (omega (arith, fits)) in
    of_integer_is w (negsuc n) (2 ^ (64 - w)) 0 (2 ^ (64 - w) * 2 ^ w - suc n) (omega (arith, ints, within))
    ∙ rw (← power) refl
