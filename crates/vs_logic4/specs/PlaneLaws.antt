-- What two planes of bits say of the vector that they hold.
use Rattle.std.proofs.Common.{◌≡◌, ℕ, zero, suc, ◌+◌, ◌-◌, ◌*◌, ◌/◌, ◌%◌, ◌^◌, ◌<◌, ◌≤◌, Bool, true, ◌&&◌, eqb, List, [], ◌∷◌, length, get_or, drop, slice_get, Some, IsTrue, ◌↔◌, refl, sym, ap, ◌∙◌, arith, bit_and, bit_or}
use Rattle.std.specs.Int.{bit_at}
use Rattle.std.proofs.Math.Nat.{pow-succ', pow-le-pow_right}
use Rattle.std.proofs.lemmas.List.{ext_get_or, get_or-replicate, length-replicate, length-drop, drop_more}
use Rattle.std.proofs.lemmas.Nat.{or_shifted}
use Rattle.std.proofs.lemmas.Bool.{and_parts, and_from, eqb-true, eq-eqb}
use Rattle.std.proofs.lemmas.Option.{slice_get-get_or}
use Rattle.std.proofs.lemmas.Nat.Bits.{bit_at-suc, bit_at_lowest, bit_at-lt, bit_at_ones, bit_at_and, bit_at-zero}
use Rattle.vs_logic4.specs.declared.digit.Digit.{Digit}
use Rattle.vs_logic4.specs.declared.digit.Digit.TheVariants.{Zero, One, X, Z}
use Rattle.vs_logic4.specs.Planes.{digit_of_bits, digits_of_planes, value_bit, unknown_bit, value_plane, unknown_plane, ArePlanes}
use Rattle.vs_logic4.specs.Vectors.{digit_of_bit, of_number, all_unknown, all_high_impedance}

pub length-digits_of_planes : (w v u : ℕ) → length (digits_of_planes w v u) ≡ w
length-digits_of_planes zero v u = refl
length-digits_of_planes (suc w) v u = ap suc (length-digits_of_planes w (v / 2) (u / 2))

-- what holds at 0 and at 1 holds at a bit
pub at_bit : (P : ℕ → Type 0) → P 0 → P 1 → (b : ℕ) → b < 2 → P b
at_bit P p q zero h = p
at_bit P p q (suc zero) h = q
at_bit P p q (suc (suc b)) h = absurd (omega arith)

value_bit-digit_of_bits : (a b : ℕ) → a < 2 → b < 2 → value_bit (digit_of_bits a b) ≡ a
value_bit-digit_of_bits a b h k =
    at_bit (λ c. value_bit (digit_of_bits c b) ≡ c)
    (at_bit (λ d. value_bit (digit_of_bits 0 d) ≡ 0) refl refl b k)
    (at_bit (λ d. value_bit (digit_of_bits 1 d) ≡ 1) refl refl b k) a h

unknown_bit-digit_of_bits : (a b : ℕ) → a < 2 → b < 2 → unknown_bit (digit_of_bits a b) ≡ b
unknown_bit-digit_of_bits a b h k =
    at_bit (λ c. unknown_bit (digit_of_bits c b) ≡ b)
    (at_bit (λ d. unknown_bit (digit_of_bits 0 d) ≡ d) refl refl b k)
    (at_bit (λ d. unknown_bit (digit_of_bits 1 d) ≡ d) refl refl b k) a h

half_below : (w v : ℕ) → v < 2 ^ suc w → v / 2 < 2 ^ w
half_below w v h = omega (arith, pow-succ' 2 w)

pub value_plane-digits_of_planes : (w v u : ℕ) → v < 2 ^ w → value_plane (digits_of_planes w v u) ≡ v
value_plane-digits_of_planes zero v u h = omega arith
value_plane-digits_of_planes (suc w) v u h =
    let bit = value_bit-digit_of_bits (v % 2) (u % 2) (omega arith) (omega arith) in
    let rest = value_plane-digits_of_planes w (v / 2) (u / 2) (half_below w v h) in
    omega (arith, bit, rest)

pub unknown_plane-digits_of_planes : (w v u : ℕ) → u < 2 ^ w → unknown_plane (digits_of_planes w v u) ≡ u
unknown_plane-digits_of_planes zero v u h = omega arith
unknown_plane-digits_of_planes (suc w) v u h =
    let bit = unknown_bit-digit_of_bits (v % 2) (u % 2) (omega arith) (omega arith) in
    let rest = unknown_plane-digits_of_planes w (v / 2) (u / 2) (half_below w u h) in
    omega (arith, bit, rest)

pub value_bit-lt : (d : Digit) → value_bit d < 2
value_bit-lt Zero = omega arith
value_bit-lt One = omega arith
value_bit-lt X = omega arith
value_bit-lt Z = omega arith

pub unknown_bit-lt : (d : Digit) → unknown_bit d < 2
unknown_bit-lt Zero = omega arith
unknown_bit-lt One = omega arith
unknown_bit-lt X = omega arith
unknown_bit-lt Z = omega arith

pub value_plane-lt : (ds : List Digit) → value_plane ds < 2 ^ length ds
value_plane-lt [] = omega arith
value_plane-lt (d ∷ ds) = omega (arith, value_bit-lt d, value_plane-lt ds, pow-succ' 2 (length ds))

pub unknown_plane-lt : (ds : List Digit) → unknown_plane ds < 2 ^ length ds
unknown_plane-lt [] = omega arith
unknown_plane-lt (d ∷ ds) = omega (arith, unknown_bit-lt d, unknown_plane-lt ds, pow-succ' 2 (length ds))

pub digit_of_bits-of : (d : Digit) → digit_of_bits (value_bit d) (unknown_bit d) ≡ d
digit_of_bits-of Zero = refl
digit_of_bits-of One = refl
digit_of_bits-of X = refl
digit_of_bits-of Z = refl

-- a vector is the digits of its planes
pub digits_of_planes-of : (ds : List Digit) → digits_of_planes (length ds) (value_plane ds) (unknown_plane ds) ≡ ds
digits_of_planes-of [] = refl
digits_of_planes-of (d ∷ ds) =
    let low_value : (value_bit d + 2 * value_plane ds) % 2 ≡ value_bit d = omega (arith, value_bit-lt d) in
    let low_unknown : (unknown_bit d + 2 * unknown_plane ds) % 2 ≡ unknown_bit d = omega (arith, unknown_bit-lt d) in
    let high_value : (value_bit d + 2 * value_plane ds) / 2 ≡ value_plane ds = omega (arith, value_bit-lt d) in
    let high_unknown : (unknown_bit d + 2 * unknown_plane ds) / 2 ≡ unknown_plane ds = omega (arith, unknown_bit-lt d) in
    rw (low_value, low_unknown, high_value, high_unknown, digit_of_bits-of d, digits_of_planes-of ds) refl

-- two vectors of one width with the same planes are equal
pub same_from_planes : (xs ys : List Digit) → length xs ≡ length ys → value_plane xs ≡ value_plane ys → unknown_plane xs ≡ unknown_plane ys → xs ≡ ys
same_from_planes xs ys l v u =
    sym (digits_of_planes-of xs) ∙ rw (l, v, u) (digits_of_planes-of ys)

-- a digit of two planes is that of the bits at its place
pub get_or-digits_of_planes : (w v u i : ℕ) (d : Digit) → i < w → get_or (digits_of_planes w v u) i d ≡ digit_of_bits (bit_at v i) (bit_at u i)
get_or-digits_of_planes zero v u i d h = absurd (omega arith)
get_or-digits_of_planes (suc w) v u zero d h = rw (bit_at_lowest v, bit_at_lowest u) refl
get_or-digits_of_planes (suc w) v u (suc i) d h =
    rw (bit_at-suc v i, bit_at-suc u i) (get_or-digits_of_planes w (v / 2) (u / 2) i d (omega arith))

pub slice_get-digits_of_planes : (w v u i : ℕ) → i < w → slice_get (digits_of_planes w v u) i ≡ Some (digit_of_bits (bit_at v i) (bit_at u i))
slice_get-digits_of_planes w v u i h =
    let long : i < length (digits_of_planes w v u) = rw length-digits_of_planes h in
    slice_get-get_or (digits_of_planes w v u) i X long ∙ ap Some (get_or-digits_of_planes w v u i X h)

-- two planes hold the vector that has the digit of their bits at each place
pub planes_are : (w v u : ℕ) (ds : List Digit) → length ds ≡ w → ((i : ℕ) → i < w → digit_of_bits (bit_at v i) (bit_at u i) ≡ get_or ds i X) → digits_of_planes w v u ≡ ds
planes_are w v u ds l h =
    ext_get_or X (digits_of_planes w v u) ds (length-digits_of_planes w v u ∙ sym l)
    (λ i k. let below : i < w = rw length-digits_of_planes at k in get_or-digits_of_planes w v u i X below ∙ h i below)

digit_of_bit_is : (b : ℕ) → b < 2 → digit_of_bit b ≡ digit_of_bits b 0
digit_of_bit_is b h = at_bit (λ c. digit_of_bit c ≡ digit_of_bits c 0) refl refl b h

-- a number's vector has the number's bits and no unknown digit
pub of_number_is : (w n : ℕ) → digits_of_planes w n 0 ≡ of_number w n
of_number_is zero n = refl
of_number_is (suc w) n =
    rw (digit_of_bit_is (n % 2) (omega arith), of_number_is w (n / 2)) refl

pub length-of_number : (w n : ℕ) → length (of_number w n) ≡ w
length-of_number w n = rw (← of_number_is w n) (length-digits_of_planes w n 0)

pub get_or-of_number : (w n i : ℕ) → i < w → get_or (of_number w n) i X ≡ digit_of_bits (bit_at n i) 0
get_or-of_number w n i h =
    rw (← of_number_is w n) (get_or-digits_of_planes w n 0 i X h ∙ rw (bit_at-zero i) refl)

-- what is read of a digit goes in at the low end of a plane
abbrev pub pushed : ℕ → ℕ → ℕ
pushed plane bit = bit_or (plane * 2 % 2 ^ 64) bit

pushed_is : (v b : ℕ) → 2 * v + b < 2 ^ 64 → b < 2 → pushed v b ≡ 2 * v + b
pushed_is v b h k =
    let whole : v * 2 % 2 ^ 64 ≡ v * 2 ^ 1 = omega arith in
    rw whole (or_shifted v 1 b k ∙ omega arith)

-- the value plane of a vector's digits from i - 1 on, made from that of those from i on
pub value_plane-step : (ds : List Digit) (i : ℕ) (d : Digit) → 0 < i → i ≤ length ds → length ds ≤ 64 → pushed (value_plane (drop i ds)) (value_bit (get_or ds (i - 1) d)) ≡ value_plane (drop (i - 1) ds)
value_plane-step ds i d p h k =
    let here : drop (i - 1) ds ≡ get_or ds (i - 1) d ∷ drop (i - 1 + 1) ds = drop_more ds (i - 1) d (omega arith) in
    let back : i - 1 + 1 ≡ i = omega arith in
    let whole : value_plane (drop (i - 1) ds) ≡ value_bit (get_or ds (i - 1) d) + 2 * value_plane (drop i ds) = rw (here, back) refl in
    let long : length (drop (i - 1) ds) ≤ 64 = omega (arith, length-drop (i - 1) ds) in
    let below : value_plane (drop (i - 1) ds) < 2 ^ 64 = omega (arith, value_plane-lt (drop (i - 1) ds), pow-le-pow_right {n = 2} (omega arith) long) in
    pushed_is (value_plane (drop i ds)) (value_bit (get_or ds (i - 1) d)) (omega arith) (value_bit-lt (get_or ds (i - 1) d)) ∙ omega arith

-- the same for the unknown plane
pub unknown_plane-step : (ds : List Digit) (i : ℕ) (d : Digit) → 0 < i → i ≤ length ds → length ds ≤ 64 → pushed (unknown_plane (drop i ds)) (unknown_bit (get_or ds (i - 1) d)) ≡ unknown_plane (drop (i - 1) ds)
unknown_plane-step ds i d p h k =
    let here : drop (i - 1) ds ≡ get_or ds (i - 1) d ∷ drop (i - 1 + 1) ds = drop_more ds (i - 1) d (omega arith) in
    let back : i - 1 + 1 ≡ i = omega arith in
    let whole : unknown_plane (drop (i - 1) ds) ≡ unknown_bit (get_or ds (i - 1) d) + 2 * unknown_plane (drop i ds) = rw (here, back) refl in
    let long : length (drop (i - 1) ds) ≤ 64 = omega (arith, length-drop (i - 1) ds) in
    let below : unknown_plane (drop (i - 1) ds) < 2 ^ 64 = omega (arith, unknown_plane-lt (drop (i - 1) ds), pow-le-pow_right {n = 2} (omega arith) long) in
    pushed_is (unknown_plane (drop i ds)) (unknown_bit (get_or ds (i - 1) d)) (omega arith) (unknown_bit-lt (get_or ds (i - 1) d)) ∙ omega arith

-- planes of one vector are equal, and so is what equal planes hold
pub same_planes-iff : (w v u w' v' u' : ℕ) (b : Bool) → ArePlanes w v u → ArePlanes w' v' u' → b ≡ ((eqb w w' && eqb v v') && eqb u u') → IsTrue b ↔ (digits_of_planes w v u ≡ digits_of_planes w' v' u')
same_planes-iff w v u w' v' u' b p q e = (
  (λ t.
      let all : ((eqb w w' && eqb v v') && eqb u u') ≡ true = sym e ∙ t in
      let outer = and_parts (eqb w w' && eqb v v') (eqb u u') all in
      let inner = and_parts (eqb w w') (eqb v v') outer.0 in
      rw (eqb-true w w' inner.0, eqb-true v v' inner.1, eqb-true u u' outer.1) refl),
  (λ s.
      let width : w ≡ w' = sym (length-digits_of_planes w v u) ∙ ap length s ∙ length-digits_of_planes w' v' u' in
      let value : v ≡ v' = sym (value_plane-digits_of_planes w v u p.value_below) ∙ ap value_plane s ∙ value_plane-digits_of_planes w' v' u' q.value_below in
      let unknown : u ≡ u' = sym (unknown_plane-digits_of_planes w v u p.unknown_below) ∙ ap unknown_plane s ∙ unknown_plane-digits_of_planes w' v' u' q.unknown_below in
      e ∙ and_from (eqb w w' && eqb v v') (eqb u u') (and_from (eqb w w') (eqb v v') (eq-eqb w w' width) (eq-eqb v v' value)) (eq-eqb u u' unknown)),
)

-- both planes full: x everywhere
pub unknown_is : (w : ℕ) → digits_of_planes w (2 ^ w - 1) (2 ^ w - 1) ≡ all_unknown w
unknown_is w = planes_are w (2 ^ w - 1) (2 ^ w - 1) (all_unknown w) (length-replicate w X) (λ i h. rw (bit_at_ones w i h, get_or-replicate w i X X h) refl)

-- the unknown plane alone full: z everywhere
pub high_impedance_is : (w : ℕ) → digits_of_planes w 0 (2 ^ w - 1) ≡ all_high_impedance w
high_impedance_is w = planes_are w 0 (2 ^ w - 1) (all_high_impedance w) (length-replicate w Z) (λ i h. rw (bit_at_ones w i h, bit_at-zero i, get_or-replicate w i Z X h) refl)

-- a number cut to its low bits has the same vector
pub of_number-mask : (w n : ℕ) → digits_of_planes w (bit_and n (2 ^ w - 1)) 0 ≡ of_number w n
of_number-mask w n =
    planes_are w (bit_and n (2 ^ w - 1)) 0 (of_number w n) (length-of_number w n)
    (λ i h. rw (get_or-of_number w n i h, bit_at_and n (2 ^ w - 1) i, bit_at_ones w i h, bit_at-zero i) (ap (λ b. digit_of_bits b 0) (omega (arith, bit_at-lt n i))))

-- bits above the width don't count
pub masked_planes : (w v u : ℕ) → digits_of_planes w (bit_and v (2 ^ w - 1)) (bit_and u (2 ^ w - 1)) ≡ digits_of_planes w v u
masked_planes w v u =
    planes_are w (bit_and v (2 ^ w - 1)) (bit_and u (2 ^ w - 1)) (digits_of_planes w v u) (length-digits_of_planes w v u)
    (λ i h.
    let value : bit_at (bit_and v (2 ^ w - 1)) i ≡ bit_at v i = bit_at_and v (2 ^ w - 1) i ∙ rw (bit_at_ones w i h) (omega (arith, bit_at-lt v i)) in
    let unknown : bit_at (bit_and u (2 ^ w - 1)) i ≡ bit_at u i = bit_at_and u (2 ^ w - 1) i ∙ rw (bit_at_ones w i h) (omega (arith, bit_at-lt u i)) in
    rw (value, unknown) (sym (get_or-digits_of_planes w v u i X h)))
