-- A test of each position of planes, and of some position, by a mask of the positions that fail it or meet it.
use Rattle.std.proofs.Common.{◌≡◌, ℕ, zero, suc, ◌/◌, ◌%◌, ◌^◌, ◌<◌, Bool, true, false, not, ◌&&◌, ◌||◌, eqb, List, [], ◌∷◌, refl, sym, ap, ◌∙◌, arith}
use Rattle.std.specs.Int.{bit_at}
use Rattle.std.specs.List.{list_any, list_all}
use Rattle.std.proofs.Math.Nat.{pow-succ'}
use Rattle.std.proofs.lemmas.Bool.{and_parts, and_from, eqb-true, eq-eqb}
use Rattle.std.proofs.lemmas.Nat.Bits.{bit_at-suc, bit_at_lowest}
use Rattle.vs_logic4.specs.declared.digit.Digit.{Digit}
use Rattle.vs_logic4.specs.Planes.{digit_of_bits, digits_of_planes}
use Rattle.vs_logic4.specs.Comparisons.{some_position, each_position}
use Rattle.vs_logic4.proofs.Basics.{same_tests}

none_zero : (m : ℕ) → (eqb (m % 2) 0 && eqb (m / 2) 0) ≡ eqb m 0
none_zero m =
    same_tests (eqb (m % 2) 0 && eqb (m / 2) 0) (eqb m 0)
    (λ h.
    let parts = and_parts (eqb (m % 2) 0) (eqb (m / 2) 0) h in
    let low : m % 2 ≡ 0 = eqb-true (m % 2) 0 parts.0 in
    let high : m / 2 ≡ 0 = eqb-true (m / 2) 0 parts.1 in
    eq-eqb m 0 (omega arith))
    (λ h.
    let whole : m ≡ 0 = eqb-true m 0 h in
    and_from (eqb (m % 2) 0) (eqb (m / 2) 0) (eq-eqb (m % 2) 0 (omega arith)) (eq-eqb (m / 2) 0 (omega arith)))

not_both : (s t : Bool) → not (s && t) ≡ (not s || not t)
not_both true t = refl
not_both false t = refl

bit_zero : (b : ℕ) → b < 2 → not (eqb b 0) ≡ eqb b 1
bit_zero zero h = refl
bit_zero (suc zero) h = refl
bit_zero (suc (suc b)) h = absurd (omega arith)

some_one : (m : ℕ) → (eqb (m % 2) 1 || not (eqb (m / 2) 0)) ≡ not (eqb m 0)
some_one m = rw (← (bit_zero (m % 2) (omega arith)), ← (not_both (eqb (m % 2) 0) (eqb (m / 2) 0)), none_zero m) refl

pub half_below : (w m : ℕ) → m < 2 ^ suc w → m / 2 < 2 ^ w
half_below w m h = omega (arith, pow-succ' 2 w)

-- each position meets a test where the mask of those that fail it is 0
pub each_is : (test : Digit → Digit → Bool) (w v u v' u' m : ℕ) → m < 2 ^ w → ((i : ℕ) → i < w → test (digit_of_bits (bit_at v i) (bit_at u i)) (digit_of_bits (bit_at v' i) (bit_at u' i)) ≡ eqb (bit_at m i) 0) → each_position test (digits_of_planes w v u) (digits_of_planes w v' u') ≡ eqb m 0
each_is test zero v u v' u' m b h = sym (eq-eqb m 0 (omega arith))
each_is test (suc w) v u v' u' m b h =
    let low : test (digit_of_bits (v % 2) (u % 2)) (digit_of_bits (v' % 2) (u' % 2)) ≡ eqb (m % 2) 0 =
    rw (← (bit_at_lowest v), ← (bit_at_lowest u), ← (bit_at_lowest v'), ← (bit_at_lowest u'), ← (bit_at_lowest m)) (h 0 (omega arith)) in
    let high = each_is test w (v / 2) (u / 2) (v' / 2) (u' / 2) (m / 2) (half_below w m b) (λ i k.
    rw (← (bit_at-suc v i), ← (bit_at-suc u i), ← (bit_at-suc v' i), ← (bit_at-suc u' i), ← (bit_at-suc m i)) (h (suc i) (omega arith))) in
    rw (low, high) (none_zero m)

-- some position meets a test where the mask of those that meet it isn't 0
pub some_is : (test : Digit → Digit → Bool) (w v u v' u' m : ℕ) → m < 2 ^ w → ((i : ℕ) → i < w → test (digit_of_bits (bit_at v i) (bit_at u i)) (digit_of_bits (bit_at v' i) (bit_at u' i)) ≡ eqb (bit_at m i) 1) → some_position test (digits_of_planes w v u) (digits_of_planes w v' u') ≡ not (eqb m 0)
some_is test zero v u v' u' m b h = let none : m ≡ 0 = omega arith in rw none refl
some_is test (suc w) v u v' u' m b h =
    let low : test (digit_of_bits (v % 2) (u % 2)) (digit_of_bits (v' % 2) (u' % 2)) ≡ eqb (m % 2) 1 =
    rw (← (bit_at_lowest v), ← (bit_at_lowest u), ← (bit_at_lowest v'), ← (bit_at_lowest u'), ← (bit_at_lowest m)) (h 0 (omega arith)) in
    let high = some_is test w (v / 2) (u / 2) (v' / 2) (u' / 2) (m / 2) (half_below w m b) (λ i k.
    rw (← (bit_at-suc v i), ← (bit_at-suc u i), ← (bit_at-suc v' i), ← (bit_at-suc u' i), ← (bit_at-suc m i)) (h (suc i) (omega arith))) in
    rw (low, high) (some_one m)

all_alone : (test : Digit → Bool) (ds : List Digit) → list_all test ds ≡ each_position (λ d _. test d) ds ds
all_alone test [] = refl
all_alone test (d ∷ ds) = ap (λ t. test d && t) (all_alone test ds)

any_alone : (test : Digit → Bool) (ds : List Digit) → list_any test ds ≡ some_position (λ d _. test d) ds ds
any_alone test [] = refl
any_alone test (d ∷ ds) = ap (λ t. test d || t) (any_alone test ds)

-- the same for one vector
pub all_is : (test : Digit → Bool) (w v u m : ℕ) → m < 2 ^ w → ((i : ℕ) → i < w → test (digit_of_bits (bit_at v i) (bit_at u i)) ≡ eqb (bit_at m i) 0) → list_all test (digits_of_planes w v u) ≡ eqb m 0
all_is test w v u m b h =
    all_alone test (digits_of_planes w v u) ∙ each_is (λ d _. test d) w v u v u m b h

pub any_is : (test : Digit → Bool) (w v u m : ℕ) → m < 2 ^ w → ((i : ℕ) → i < w → test (digit_of_bits (bit_at v i) (bit_at u i)) ≡ eqb (bit_at m i) 1) → list_any test (digits_of_planes w v u) ≡ not (eqb m 0)
any_is test w v u m b h =
    any_alone test (digits_of_planes w v u) ∙ some_is (λ d _. test d) w v u v u m b h
