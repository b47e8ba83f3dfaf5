-- The truth of a vector, the equality operators and the reductions, by their planes.
use Rattle.std.proofs.Common.{◌≡◌, ℕ, zero, suc, ◌+◌, ◌-◌, ◌*◌, ◌/◌, ◌%◌, ◌^◌, ◌<◌, min, max, ⊎_elim, Bool, true, false, not, cond, ◌&&◌, ◌||◌, eqb, List, [], ◌∷◌, length, refl, sym, ap, ◌∙◌, arith, w64, bit_and, bit_or}
use Rattle.std.specs.Int.{bit_at, bit_not}
use Rattle.std.specs.Int.RustNames.{bit_xor}
use Rattle.std.specs.List.{list_any, list_all}
use Rattle.std.proofs.lemmas.Bool.{and_parts, and_from, and_cases, ne_eqb, eqb-true, eq-eqb}
use Rattle.std.proofs.lemmas.Nat.{or_lt, xor_lt, le_or_l, le_or_r, ones_cat}
use Rattle.std.specs.Int.RustNames.{count_ones}
use Rattle.std.proofs.lemmas.Nat.Bits.{bit_at_or, bit_at_xor, bit_at_ones, bit_at-lt}
use Rattle.vs_logic4.specs.declared.digit.Digit.{Digit}
use Rattle.vs_logic4.specs.declared.digit.Digit.TheVariants.{Zero, One, X, Z}
use Rattle.vs_logic4.specs.Planes.{digit_of_bits, digits_of_planes, ArePlanes}
use Rattle.vs_logic4.specs.Vectors.{same_digit}
use Rattle.vs_logic4.specs.PlaneLaws.{at_bit}
use Rattle.vs_logic4.specs.Tables.{digit_of_test, is_known_digit, are_known_and_differ, matches_casez, matches_casex, and_digit, or_digit, xor_digit}
use Rattle.vs_logic4.specs.Bitwise.{reduced_and, reduced_or, reduced_xor}
use Rattle.vs_logic4.specs.Comparisons.{is_known, truth, some_position, logical_equality, casez_equality, casex_equality}
use mathlib.Core.Bool.{beq}
use Rattle.vs_logic4.proofs.Bits.{holds4, agree2_at, tests2_at, tests4_at, bit_at_and_not, below_64, and_below_left, ones_below, same_width}
use Rattle.vs_logic4.proofs.Positions.{half_below, each_is, some_is, all_is, any_is}
use Rattle.vs_logic4.proofs.Basics.{same_tests}

module _ {w v u : ℕ} {ds : List Digit} (p : ArePlanes w v u) (view : digits_of_planes w v u ≡ ds) where
  pub is_known_is : eqb u 0 ≡ is_known ds
  is_known_is =
      rw (← view) (sym (all_is is_known_digit w v u u p.unknown_below
      (λ i h. tests2_at (λ a b. is_known_digit (digit_of_bits a b)) (λ a b. eqb b 0) refl (bit_at v i) (bit_at u i) (bit_at-lt v i) (bit_at-lt u i))))

  pub truth_is : cond (not (eqb (bit_and v (bit_not w64 u)) 0)) One (cond (eqb (bit_or v u) 0) Zero X) ≡ truth ds
  truth_is =
      let some_one : list_any (same_digit One) (digits_of_planes w v u) ≡ not (eqb (bit_and v (bit_not w64 u)) 0) =
      any_is (same_digit One) w v u (bit_and v (bit_not w64 u)) (and_below_left w v (bit_not w64 u) p.value_below)
      (λ i h. rw (bit_at_and_not v u i (below_64 w u p.most p.unknown_below) (omega (arith, p.most)))
      (tests2_at (λ a b. same_digit One (digit_of_bits a b)) (λ a b. eqb (min a (1 - b)) 1) refl (bit_at v i) (bit_at u i) (bit_at-lt v i) (bit_at-lt u i))) in
      let all_zero : list_all (same_digit Zero) (digits_of_planes w v u) ≡ eqb (bit_or v u) 0 =
      all_is (same_digit Zero) w v u (bit_or v u) (or_lt w v u p.value_below p.unknown_below)
      (λ i h. rw (bit_at_or v u i)
      (tests2_at (λ a b. same_digit Zero (digit_of_bits a b)) (λ a b. eqb (max a b) 0) refl (bit_at v i) (bit_at u i) (bit_at-lt v i) (bit_at-lt u i))) in
      rw (← view, some_one, all_zero) refl

pub or_both : (s t : Bool) (m n : ℕ) → eqb m 0 ≡ s → eqb n 0 ≡ t → eqb (bit_or m n) 0 ≡ (s && t)
or_both s t m n h k =
    same_tests (eqb (bit_or m n) 0) (eqb m 0 && eqb n 0)
    (λ e.
    let none : bit_or m n ≡ 0 = eqb-true (bit_or m n) 0 e in
    and_from (eqb m 0) (eqb n 0) (eq-eqb m 0 (omega (arith, le_or_l m n))) (eq-eqb n 0 (omega (arith, le_or_r m n))))
    (λ e.
    let parts = and_parts (eqb m 0) (eqb n 0) e in
    rw (eqb-true m 0 parts.0, eqb-true n 0 parts.1) refl)
    ∙ rw (h, k) refl

module _ {w v u w' v' u' : ℕ} {ds es : List Digit} (p : ArePlanes w v u) (q : ArePlanes w' v' u') (view : digits_of_planes w v u ≡ ds) (view' : digits_of_planes w' v' u' ≡ es) (long : length ds ≡ length es) where
  same : w' ≡ w
  same = same_width w v u w' v' u' ds es view view' long

  value_below : v' < 2 ^ w
  value_below = rw (← same) q.value_below

  unknown_below : u' < 2 ^ w
  unknown_below = rw (← same) q.unknown_below

  by_bits : (f g : ℕ → ℕ → ℕ → ℕ → Bool) → holds4 (λ a b c d. beq (f a b c d) (g a b c d)) ≡ true → (i : ℕ) → f (bit_at v i) (bit_at u i) (bit_at v' i) (bit_at u' i) ≡ g (bit_at v i) (bit_at u i) (bit_at v' i) (bit_at u' i)
  by_bits f g h i =
      tests4_at f g h (bit_at v i) (bit_at u i) (bit_at v' i) (bit_at u' i) (bit_at-lt v i) (bit_at-lt u i) (bit_at-lt v' i) (bit_at-lt u' i)

  some_unknown : bit_or u u' < 2 ^ w
  some_unknown = or_lt w u u' p.unknown_below unknown_below

  values_differ : bit_xor v v' < 2 ^ w
  values_differ = xor_lt w v v' p.value_below value_below

  -- the positions where both digits are known and differ
  known_differ : (i : ℕ) → i < w → bit_at (bit_and (bit_xor v v') (bit_not w64 (bit_or u u'))) i ≡ min ((bit_at v i + bit_at v' i) % 2) (1 - max (bit_at u i) (bit_at u' i))
  known_differ i h =
      bit_at_and_not (bit_xor v v') (bit_or u u') i (below_64 w (bit_or u u') p.most some_unknown) (omega (arith, p.most))
      ∙ rw (bit_at_xor v v' i, bit_at_or u u' i) refl

  pub eq_is : cond (not (eqb (bit_and (bit_xor v v') (bit_not w64 (bit_or u u'))) 0)) Zero (cond (eqb (bit_or u u') 0) One X) ≡ logical_equality ds es
  eq_is =
      let differ : some_position are_known_and_differ (digits_of_planes w v u) (digits_of_planes w v' u') ≡ not (eqb (bit_and (bit_xor v v') (bit_not w64 (bit_or u u'))) 0) =
      some_is are_known_and_differ w v u v' u' (bit_and (bit_xor v v') (bit_not w64 (bit_or u u')))
      (and_below_left w (bit_xor v v') (bit_not w64 (bit_or u u')) values_differ)
      (λ i h. rw (known_differ i h) (by_bits
      (λ a b c d. are_known_and_differ (digit_of_bits a b) (digit_of_bits c d))
      (λ a b c d. eqb (min ((a + c) % 2) (1 - max b d)) 1) refl i)) in
      let known = or_both (is_known ds) (is_known es) u u' (is_known_is p view) (is_known_is q view') in
      let differ' : some_position are_known_and_differ ds es ≡ not (eqb (bit_and (bit_xor v v') (bit_not w64 (bit_or u u'))) 0) =
      rw (← view, ← view', same) differ in
      rw (differ', ← known) refl

  pub casex_is : eqb (bit_and (bit_xor v v') (bit_not w64 (bit_or u u'))) 0 ≡ casex_equality ds es
  casex_is =
      rw (← view, ← view', same) (sym (each_is matches_casex w v u v' u' (bit_and (bit_xor v v') (bit_not w64 (bit_or u u')))
      (and_below_left w (bit_xor v v') (bit_not w64 (bit_or u u')) values_differ)
      (λ i h. rw (known_differ i h) (by_bits
      (λ a b c d. matches_casex (digit_of_bits a b) (digit_of_bits c d))
      (λ a b c d. eqb (min ((a + c) % 2) (1 - max b d)) 0) refl i))))

  pub casez_is :
      let differ = bit_or (bit_xor v v') (bit_xor u u') in
      let high_impedance = bit_or (bit_and u (bit_not w64 v)) (bit_and u' (bit_not w64 v')) in
      eqb (bit_and differ (bit_not w64 high_impedance)) 0 ≡ casez_equality ds es
  casez_is =
      let differ = bit_or (bit_xor v v') (bit_xor u u') in
      let mine = bit_and u (bit_not w64 v) in
      let others = bit_and u' (bit_not w64 v') in
      let high_impedance = bit_or mine others in
      let differ_below : bit_or (bit_xor v v') (bit_xor u u') < 2 ^ w =
      or_lt w (bit_xor v v') (bit_xor u u') values_differ (xor_lt w u u' p.unknown_below unknown_below) in
      let high_below : bit_or (bit_and u (bit_not w64 v)) (bit_and u' (bit_not w64 v')) < 2 ^ w =
      or_lt w mine others (and_below_left w u (bit_not w64 v) p.unknown_below) (and_below_left w u' (bit_not w64 v') unknown_below) in
      rw (← view, ← view', same) (sym (each_is matches_casez w v u v' u' (bit_and differ (bit_not w64 high_impedance))
      (and_below_left w differ (bit_not w64 high_impedance) differ_below)
      (λ i h.
      let within : i < 64 = omega (arith, p.most) in
      let z = bit_at_and_not u v i (below_64 w v p.most p.value_below) within in
      let z' = bit_at_and_not u' v' i (below_64 w v' p.most value_below) within in
      let both = bit_at_and_not differ high_impedance i (below_64 w high_impedance p.most high_below) within in
      rw (both, bit_at_or (bit_xor v v') (bit_xor u u') i, bit_at_xor v v' i, bit_at_xor u u' i, bit_at_or mine others i, z, z')
      (by_bits
      (λ a b c d. matches_casez (digit_of_bits a b) (digit_of_bits c d))
      (λ a b c d. eqb (min (max ((a + c) % 2) ((b + d) % 2)) (1 - max (min b (1 - a)) (min d (1 - c)))) 0) refl i))))

-- ---- the reductions
decided_and : (z k : Bool) (d : Digit) → and_digit d (cond z Zero (cond k One X)) ≡ cond (same_digit Zero d || z) Zero (cond (is_known_digit d && k) One X)
decided_and true k Zero = refl
decided_and true k One = refl
decided_and true k X = refl
decided_and true k Z = refl
decided_and false true Zero = refl
decided_and false true One = refl
decided_and false true X = refl
decided_and false true Z = refl
decided_and false false Zero = refl
decided_and false false One = refl
decided_and false false X = refl
decided_and false false Z = refl

-- `&` of all digits: 0 if some digit is 0, else 1 if all are known, else x
reduced_and_cases : (ds : List Digit) → reduced_and ds ≡ cond (list_any (same_digit Zero) ds) Zero (cond (is_known ds) One X)
reduced_and_cases [] = refl
reduced_and_cases (d ∷ ds) =
    ap (and_digit d) (reduced_and_cases ds) ∙ decided_and (list_any (same_digit Zero) ds) (is_known ds) d

decided_or : (o z : Bool) (d : Digit) → or_digit d (cond o One (cond z Zero X)) ≡ cond (same_digit One d || o) One (cond (same_digit Zero d && z) Zero X)
decided_or true z Zero = refl
decided_or true z One = refl
decided_or true z X = refl
decided_or true z Z = refl
decided_or false true Zero = refl
decided_or false true One = refl
decided_or false true X = refl
decided_or false true Z = refl
decided_or false false Zero = refl
decided_or false false One = refl
decided_or false false X = refl
decided_or false false Z = refl

-- `|` of all digits is the truth of the vector
pub truth_is_reduced_or : (ds : List Digit) → truth ds ≡ reduced_or ds
truth_is_reduced_or [] = refl
truth_is_reduced_or (d ∷ ds) =
    sym (decided_or (list_any (same_digit One) ds) (list_all (same_digit Zero) ds) d) ∙ ap (or_digit d) (truth_is_reduced_or ds)

module _ {w v u : ℕ} {ds : List Digit} (p : ArePlanes w v u) (view : digits_of_planes w v u ≡ ds) where
  pub reduced_and_is : cond (not (eqb (bit_xor (bit_or v u) (2 ^ w - 1)) 0)) Zero (cond (eqb u 0) One X) ≡ reduced_and ds
  reduced_and_is =
      let some_zero : list_any (same_digit Zero) (digits_of_planes w v u) ≡ not (eqb (bit_xor (bit_or v u) (2 ^ w - 1)) 0) =
      any_is (same_digit Zero) w v u (bit_xor (bit_or v u) (2 ^ w - 1))
      (xor_lt w (bit_or v u) (2 ^ w - 1) (or_lt w v u p.value_below p.unknown_below) (ones_below w))
      (λ i h. rw (bit_at_xor (bit_or v u) (2 ^ w - 1) i, bit_at_or v u i, bit_at_ones w i h)
      (tests2_at (λ a b. same_digit Zero (digit_of_bits a b)) (λ a b. eqb ((max a b + 1) % 2) 1) refl (bit_at v i) (bit_at u i) (bit_at-lt v i) (bit_at-lt u i))) in
      let some_zero' : list_any (same_digit Zero) ds ≡ not (eqb (bit_xor (bit_or v u) (2 ^ w - 1)) 0) = rw (← view) some_zero in
      sym (reduced_and_cases ds ∙ rw (some_zero', ← (is_known_is p view)) refl)

ones_of_bit : (b : ℕ) → b < 2 → count_ones b ≡ b
unfolding count_ones
ones_of_bit b h = at_bit (λ n. count_ones n ≡ n) refl refl b h

-- a digit more turns the parity
parity_step : (k b : ℕ) → b < 2 → xor_digit (digit_of_bits b 0) (digit_of_test (eqb (k % 2) 1)) ≡ digit_of_test (eqb ((k + b) % 2) 1)
parity_step k b h =
    let total : (k + b) % 2 ≡ (k % 2 + b) % 2 = omega arith in
    rw total (agree2_at
    (λ a c. xor_digit (digit_of_bits c 0) (digit_of_test (eqb a 1)))
    (λ a c. digit_of_test (eqb ((a + c) % 2) 1)) refl (k % 2) b (omega arith) h)

-- `^` of known digits is the parity of the ones
pub reduced_xor_known : (w v : ℕ) → v < 2 ^ w → digit_of_test (eqb (count_ones v % 2) 1) ≡ reduced_xor (digits_of_planes w v 0)
reduced_xor_known zero v h =
    let none : v ≡ 0 = omega arith in
    let ones : count_ones 0 ≡ 0 = ones_of_bit 0 (omega arith) in
    rw (none, ones) refl
reduced_xor_known (suc w) v h =
    let whole : v / 2 * 2 ^ 1 + v % 2 ≡ v = omega arith in
    let parts : count_ones v ≡ count_ones (v / 2) + v % 2 =
    ap count_ones (sym whole) ∙ ones_cat 1 (v / 2) (v % 2) (omega arith) ∙ ap (λ n. count_ones (v / 2) + n) (ones_of_bit (v % 2) (omega arith)) in
    rw parts (sym (parity_step (count_ones (v / 2)) (v % 2) (omega arith)))
    ∙ ap (xor_digit (digit_of_bits (v % 2) 0)) (reduced_xor_known w (v / 2) (half_below w v h))

xor_unknown : (d e : Digit) → is_known_digit d ≡ false → xor_digit d e ≡ X
xor_unknown Zero e h = cc
xor_unknown One e h = cc
xor_unknown X Zero h = refl
xor_unknown X One h = refl
xor_unknown X X h = refl
xor_unknown X Z h = refl
xor_unknown Z Zero h = refl
xor_unknown Z One h = refl
xor_unknown Z X h = refl
xor_unknown Z Z h = refl

xor_x : (d : Digit) → xor_digit d X ≡ X
xor_x Zero = refl
xor_x One = refl
xor_x X = refl
xor_x Z = refl

-- `^` of digits of which some is x or z is x
reduced_xor_of_unknown : (ds : List Digit) → is_known ds ≡ false → reduced_xor ds ≡ X
reduced_xor_of_unknown [] h = cc
reduced_xor_of_unknown (d ∷ ds) h =
    ⊎_elim
    (λ k. xor_unknown d (reduced_xor ds) k)
    (λ k. ap (xor_digit d) (reduced_xor_of_unknown ds k) ∙ xor_x d)
    (and_cases (is_known_digit d) (is_known ds) h)

module _ {w v u : ℕ} {ds : List Digit} (p : ArePlanes w v u) (view : digits_of_planes w v u ≡ ds) where
  pub reduced_xor_unknown : (u ≡ 0 → ⊥) → X ≡ reduced_xor ds
  reduced_xor_unknown h =
      sym (reduced_xor_of_unknown ds (sym (is_known_is p view) ∙ ne_eqb u 0 h))

  pub reduced_xor_parity : u ≡ 0 → digit_of_test (eqb (count_ones v % 2) 1) ≡ reduced_xor ds
  reduced_xor_parity h = rw (← view, h) (reduced_xor_known w v p.value_below)
