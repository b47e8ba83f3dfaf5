-- The bitwise operators: each formula on planes is its table at each place.
use Rattle.std.proofs.Common.{◌≡◌, ℕ, suc, zero, ◌+◌, ◌-◌, ◌/◌, ◌%◌, ◌^◌, ◌<◌, min, max, true, List, length, map, refl, arith, w64, bit_and, bit_or}
use Rattle.std.specs.Int.{bit_at, bit_not}
use Rattle.std.specs.Int.RustNames.{bit_xor}
use Rattle.std.proofs.lemmas.Nat.{or_lt, xor_lt}
use Rattle.std.proofs.lemmas.Nat.Bits.{bit_at_and, bit_at_or, bit_at_xor, bit_at_ones, bit_at-lt, bit_at-suc, bit_at_lowest}
use Rattle.vs_logic4.specs.declared.digit.Digit.{Digit}
use Rattle.vs_logic4.specs.Vectors.{same_digit}
use Rattle.vs_logic4.specs.Planes.{digit_of_bits, digits_of_planes, ArePlanes}
use Rattle.vs_logic4.specs.Tables.{and_digit, or_digit, xor_digit, xnor_digit, not_digit, merged_digit}
use Rattle.vs_logic4.specs.Bitwise.{digitwise, bitwise_and, bitwise_or, bitwise_xor, bitwise_xnor, bitwise_not, merged}
use Rattle.vs_logic4.proofs.Bits.{holds4, agree4_at, agree2_at, bit_at_and_not, below_64, and_below_left, ones_below, same_width}

-- planes whose bits are those of a table at each place hold the table's vector
digitwise_is : (f : Digit → Digit → Digit) (w v u v' u' a b : ℕ) → ((i : ℕ) → i < w → digit_of_bits (bit_at a i) (bit_at b i) ≡ f (digit_of_bits (bit_at v i) (bit_at u i)) (digit_of_bits (bit_at v' i) (bit_at u' i))) → digits_of_planes w a b ≡ digitwise f (digits_of_planes w v u) (digits_of_planes w v' u')
digitwise_is f zero v u v' u' a b h = refl
digitwise_is f (suc w) v u v' u' a b h =
    let low : digit_of_bits (a % 2) (b % 2) ≡ f (digit_of_bits (v % 2) (u % 2)) (digit_of_bits (v' % 2) (u' % 2)) =
    rw (← (bit_at_lowest a), ← (bit_at_lowest b), ← (bit_at_lowest v), ← (bit_at_lowest u), ← (bit_at_lowest v'), ← (bit_at_lowest u')) (h 0 (omega arith)) in
    let high = digitwise_is f w (v / 2) (u / 2) (v' / 2) (u' / 2) (a / 2) (b / 2) (λ i k.
    rw (← (bit_at-suc a i), ← (bit_at-suc b i), ← (bit_at-suc v i), ← (bit_at-suc u i), ← (bit_at-suc v' i), ← (bit_at-suc u' i)) (h (suc i) (omega arith))) in
    rw (low, high) refl

-- the same for a table of one digit
placewise_is : (f : Digit → Digit) (w v u a b : ℕ) → ((i : ℕ) → i < w → digit_of_bits (bit_at a i) (bit_at b i) ≡ f (digit_of_bits (bit_at v i) (bit_at u i))) → digits_of_planes w a b ≡ map f (digits_of_planes w v u)
placewise_is f zero v u a b h = refl
placewise_is f (suc w) v u a b h =
    let low : digit_of_bits (a % 2) (b % 2) ≡ f (digit_of_bits (v % 2) (u % 2)) =
    rw (← (bit_at_lowest a), ← (bit_at_lowest b), ← (bit_at_lowest v), ← (bit_at_lowest u)) (h 0 (omega arith)) in
    let high = placewise_is f w (v / 2) (u / 2) (a / 2) (b / 2) (λ i k.
    rw (← (bit_at-suc a i), ← (bit_at-suc b i), ← (bit_at-suc v i), ← (bit_at-suc u i)) (h (suc i) (omega arith))) in
    rw (low, high) refl

module _ {w v u w' v' u' : ℕ} {ds es : List Digit} (p : ArePlanes w v u) (q : ArePlanes w' v' u') (view : digits_of_planes w v u ≡ ds) (view' : digits_of_planes w' v' u' ≡ es) (long : length ds ≡ length es) where
  same : w' ≡ w
  same = same_width w v u w' v' u' ds es view view' long

  value_below : v' < 2 ^ w
  value_below = rw (← same) q.value_below

  unknown_below : u' < 2 ^ w
  unknown_below = rw (← same) q.unknown_below

  -- planes within the width whose bits are those of a table
  tabled : (f : Digit → Digit → Digit) (a b : ℕ) → a < 2 ^ w → b < 2 ^ w → ((i : ℕ) → i < w → digit_of_bits (bit_at a i) (bit_at b i) ≡ f (digit_of_bits (bit_at v i) (bit_at u i)) (digit_of_bits (bit_at v' i) (bit_at u' i))) → ArePlanes w a b × (digits_of_planes w a b ≡ digitwise f ds es)
  tabled f a b h k l = (
    record { some = p.some; most = p.most; value_below = h; unknown_below = k },
    rw (← view, ← view', same) (digitwise_is f w v u v' u' a b l),
  )

  -- a formula on the four bits of a place that agrees with a table
  by_bits : (f g : ℕ → ℕ → ℕ → ℕ → Digit) → holds4 (λ a b c d. same_digit (f a b c d) (g a b c d)) ≡ true → (i : ℕ) → f (bit_at v i) (bit_at u i) (bit_at v' i) (bit_at u' i) ≡ g (bit_at v i) (bit_at u i) (bit_at v' i) (bit_at u' i)
  by_bits f g h i =
      agree4_at f g h (bit_at v i) (bit_at u i) (bit_at v' i) (bit_at u' i) (bit_at-lt v i) (bit_at-lt u i) (bit_at-lt v' i) (bit_at-lt u' i)

  pub and_is : ArePlanes w (bit_and (bit_or v u) (bit_or v' u')) (bit_and (bit_and (bit_or v u) (bit_or v' u')) (bit_or u u')) × (digits_of_planes w (bit_and (bit_or v u) (bit_or v' u')) (bit_and (bit_and (bit_or v u) (bit_or v' u')) (bit_or u u')) ≡ bitwise_and ds es)
  and_is =
      let value : bit_and (bit_or v u) (bit_or v' u') < 2 ^ w = and_below_left w (bit_or v u) (bit_or v' u') (or_lt w v u p.value_below p.unknown_below) in
      tabled and_digit (bit_and (bit_or v u) (bit_or v' u')) (bit_and (bit_and (bit_or v u) (bit_or v' u')) (bit_or u u'))
      value (and_below_left w (bit_and (bit_or v u) (bit_or v' u')) (bit_or u u') value)
      (λ i h. simp (bit_at_and, bit_at_or) (by_bits
      (λ a b c d. digit_of_bits (min (max a b) (max c d)) (min (min (max a b) (max c d)) (max b d)))
      (λ a b c d. and_digit (digit_of_bits a b) (digit_of_bits c d)) refl i))

  pub or_is :
      let unknown = bit_or u u' in
      let ones = bit_or (bit_and v (bit_not w64 u)) (bit_and v' (bit_not w64 u')) in
      ArePlanes w (bit_or (bit_or v v') unknown) (bit_and unknown (bit_not w64 ones)) × (digits_of_planes w (bit_or (bit_or v v') unknown) (bit_and unknown (bit_not w64 ones)) ≡ bitwise_or ds es)
  or_is =
      let unknown = bit_or u u' in
      let one = bit_and v (bit_not w64 u) in
      let one' = bit_and v' (bit_not w64 u') in
      let ones = bit_or one one' in
      let some_unknown : bit_or u u' < 2 ^ w = or_lt w u u' p.unknown_below unknown_below in
      let some_ones : bit_or (bit_and v (bit_not w64 u)) (bit_and v' (bit_not w64 u')) < 2 ^ w =
      or_lt w one one' (and_below_left w v (bit_not w64 u) p.value_below) (and_below_left w v' (bit_not w64 u') value_below) in
      tabled or_digit (bit_or (bit_or v v') unknown) (bit_and unknown (bit_not w64 ones))
      (or_lt w (bit_or v v') unknown (or_lt w v v' p.value_below value_below) some_unknown)
      (and_below_left w unknown (bit_not w64 ones) some_unknown)
      (λ i h.
      let within : i < 64 = omega (arith, p.most) in
      let known = bit_at_and_not v u i (below_64 w u p.most p.unknown_below) within in
      let known' = bit_at_and_not v' u' i (below_64 w u' p.most unknown_below) within in
      let rest = bit_at_and_not unknown ones i (below_64 w ones p.most some_ones) within in
      rw (bit_at_or (bit_or v v') unknown i, bit_at_or v v' i, rest, bit_at_or u u' i, bit_at_or one one' i, known, known')
      (by_bits
      (λ a b c d. digit_of_bits (max (max a c) (max b d)) (min (max b d) (1 - max (min a (1 - b)) (min c (1 - d)))))
      (λ a b c d. or_digit (digit_of_bits a b) (digit_of_bits c d)) refl i))

  pub xor_is :
      ArePlanes w (bit_or (bit_xor v v') (bit_or u u')) (bit_or u u') × (digits_of_planes w (bit_or (bit_xor v v') (bit_or u u')) (bit_or u u') ≡ bitwise_xor ds es)
  xor_is =
      let some_unknown : bit_or u u' < 2 ^ w = or_lt w u u' p.unknown_below unknown_below in
      tabled xor_digit (bit_or (bit_xor v v') (bit_or u u')) (bit_or u u')
      (or_lt w (bit_xor v v') (bit_or u u') (xor_lt w v v' p.value_below value_below) some_unknown)
      some_unknown
      (λ i h. simp (bit_at_or, bit_at_xor) (by_bits
      (λ a b c d. digit_of_bits (max ((a + c) % 2) (max b d)) (max b d))
      (λ a b c d. xor_digit (digit_of_bits a b) (digit_of_bits c d)) refl i))

  pub xnor_is :
      let value = bit_or (bit_xor (bit_xor v v') (2 ^ w - 1)) (bit_or u u') in
      ArePlanes w value (bit_or u u') × (digits_of_planes w value (bit_or u u') ≡ bitwise_xnor ds es)
  xnor_is =
      let some_unknown : bit_or u u' < 2 ^ w = or_lt w u u' p.unknown_below unknown_below in
      tabled xnor_digit (bit_or (bit_xor (bit_xor v v') (2 ^ w - 1)) (bit_or u u')) (bit_or u u')
      (or_lt w (bit_xor (bit_xor v v') (2 ^ w - 1)) (bit_or u u') (xor_lt w (bit_xor v v') (2 ^ w - 1) (xor_lt w v v' p.value_below value_below) (ones_below w)) some_unknown)
      some_unknown
      (λ i h.
      rw (bit_at_or (bit_xor (bit_xor v v') (2 ^ w - 1)) (bit_or u u') i, bit_at_xor (bit_xor v v') (2 ^ w - 1) i, bit_at_xor v v' i, bit_at_or u u' i, bit_at_ones w i h)
      (by_bits
      (λ a b c d. digit_of_bits (max (((a + c) % 2 + 1) % 2) (max b d)) (max b d))
      (λ a b c d. xnor_digit (digit_of_bits a b) (digit_of_bits c d)) refl i))

  pub merge_is :
      let unknown = bit_or (bit_or u u') (bit_xor v v') in
      ArePlanes w (bit_or v unknown) unknown × (digits_of_planes w (bit_or v unknown) unknown ≡ merged ds es)
  merge_is =
      let unknown = bit_or (bit_or u u') (bit_xor v v') in
      let some_unknown : bit_or (bit_or u u') (bit_xor v v') < 2 ^ w =
      or_lt w (bit_or u u') (bit_xor v v') (or_lt w u u' p.unknown_below unknown_below) (xor_lt w v v' p.value_below value_below) in
      tabled merged_digit (bit_or v unknown) unknown
      (or_lt w v unknown p.value_below some_unknown) some_unknown
      (λ i h. simp (bit_at_or, bit_at_xor) (by_bits
      (λ a b c d. digit_of_bits (max a (max (max b d) ((a + c) % 2))) (max (max b d) ((a + c) % 2)))
      (λ a b c d. merged_digit (digit_of_bits a b) (digit_of_bits c d)) refl i))

module _ {w v u : ℕ} {ds : List Digit} (p : ArePlanes w v u) (view : digits_of_planes w v u ≡ ds) where
  pub not_is :
      let value = bit_or (bit_xor v (2 ^ w - 1)) u in
      ArePlanes w value u × (digits_of_planes w value u ≡ bitwise_not ds)
  not_is =
      let value = bit_or (bit_xor v (2 ^ w - 1)) u in (
        record {
          some = p.some;
          most = p.most;
          value_below = or_lt w (bit_xor v (2 ^ w - 1)) u (xor_lt w v (2 ^ w - 1) p.value_below (ones_below w)) p.unknown_below;
          unknown_below = p.unknown_below;
        },
        rw (← view) (placewise_is not_digit w v u value u (λ i h.
            rw (bit_at_or (bit_xor v (2 ^ w - 1)) u i, bit_at_xor v (2 ^ w - 1) i, bit_at_ones w i h)
            (agree2_at
            (λ a b. digit_of_bits (max ((a + 1) % 2) b) b)
            (λ a b. not_digit (digit_of_bits a b)) refl (bit_at v i) (bit_at u i) (bit_at-lt v i) (bit_at-lt u i)))),
      )
