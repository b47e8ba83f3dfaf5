-- What a formula on planes says of a digit: the formula on its bits, checked at each choice of the bits.
use Rattle.std.proofs.Common.{◌≡◌, ℕ, ◌-◌, ◌^◌, ◌<◌, ◌≤◌, min, Bool, true, false, ◌&&◌, List, length, refl, sym, ap, ◌∙◌, arith, w64, bit_and}
use Rattle.std.specs.Int.{bit_at, bit_not}
use mathlib.Core.Bool.{beq}
use Rattle.std.proofs.Math.Nat.{pow-le-pow_right}
use Rattle.std.proofs.lemmas.Bool.{and_parts}
use Rattle.std.proofs.lemmas.Nat.{and_le_l, pow_pos}
use Rattle.std.proofs.lemmas.Nat.Bits.{bit_at_and, bit_at_not}
use Rattle.vs_logic4.specs.declared.digit.Digit.{Digit}
use Rattle.vs_logic4.specs.Vectors.{same_digit}
use Rattle.vs_logic4.specs.Sameness.{same_digit-true}
use Rattle.vs_logic4.specs.Planes.{digits_of_planes}
use Rattle.vs_logic4.specs.PlaneLaws.{at_bit, length-digits_of_planes}

-- a test holds at each choice of one, two or four bits
abbrev holds1 : (ℕ → Bool) → Bool
holds1 t = t 0 && t 1

abbrev pub holds2 : (ℕ → ℕ → Bool) → Bool
holds2 t = holds1 (t 0) && holds1 (t 1)

abbrev pub holds4 : (ℕ → ℕ → ℕ → ℕ → Bool) → Bool
holds4 t = (holds2 (t 0 0) && holds2 (t 0 1)) && (holds2 (t 1 0) && holds2 (t 1 1))

holds1_at : (t : ℕ → Bool) → holds1 t ≡ true → (a : ℕ) → a < 2 → t a ≡ true
holds1_at t h a k =
    let parts = and_parts (t 0) (t 1) h in
    at_bit (λ n. t n ≡ true) parts.0 parts.1 a k

pub holds2_at : (t : ℕ → ℕ → Bool) → holds2 t ≡ true → (a b : ℕ) → a < 2 → b < 2 → t a b ≡ true
holds2_at t h a b k l =
    let parts = and_parts (holds1 (t 0)) (holds1 (t 1)) h in
    at_bit (λ n. t n b ≡ true) (holds1_at (t 0) parts.0 b l) (holds1_at (t 1) parts.1 b l) a k

pub holds4_at : (t : ℕ → ℕ → ℕ → ℕ → Bool) → holds4 t ≡ true → (a b c d : ℕ) → a < 2 → b < 2 → c < 2 → d < 2 → t a b c d ≡ true
holds4_at t h a b c d i j k l =
    let parts = and_parts (holds2 (t 0 0) && holds2 (t 0 1)) (holds2 (t 1 0) && holds2 (t 1 1)) h in
    let low = and_parts (holds2 (t 0 0)) (holds2 (t 0 1)) parts.0 in
    let high = and_parts (holds2 (t 1 0)) (holds2 (t 1 1)) parts.1 in
    at_bit (λ m. t m b c d ≡ true)
    (at_bit (λ n. t 0 n c d ≡ true) (holds2_at (t 0 0) low.0 c d k l) (holds2_at (t 0 1) low.1 c d k l) b j)
    (at_bit (λ n. t 1 n c d ≡ true) (holds2_at (t 1 0) high.0 c d k l) (holds2_at (t 1 1) high.1 c d k l) b j)
    a i

-- two formulas on bits with values of a digit agree
pub agree2_at : (f g : ℕ → ℕ → Digit) → holds2 (λ a b. same_digit (f a b) (g a b)) ≡ true → (a b : ℕ) → a < 2 → b < 2 → f a b ≡ g a b
agree2_at f g h a b k l =
    same_digit-true (f a b) (g a b) (holds2_at (λ a b. same_digit (f a b) (g a b)) h a b k l)

pub agree4_at : (f g : ℕ → ℕ → ℕ → ℕ → Digit) → holds4 (λ a b c d. same_digit (f a b c d) (g a b c d)) ≡ true → (a b c d : ℕ) → a < 2 → b < 2 → c < 2 → d < 2 → f a b c d ≡ g a b c d
agree4_at f g h a b c d i j k l =
    same_digit-true (f a b c d) (g a b c d) (holds4_at (λ a b c d. same_digit (f a b c d) (g a b c d)) h a b c d i j k l)

same_test : (s t : Bool) → beq s t ≡ true → s ≡ t
same_test true true h = refl
same_test true false h = cc
same_test false true h = cc
same_test false false h = refl

-- two tests of bits agree
pub tests2_at : (f g : ℕ → ℕ → Bool) → holds2 (λ a b. beq (f a b) (g a b)) ≡ true → (a b : ℕ) → a < 2 → b < 2 → f a b ≡ g a b
tests2_at f g h a b k l =
    same_test (f a b) (g a b) (holds2_at (λ a b. beq (f a b) (g a b)) h a b k l)

pub tests4_at : (f g : ℕ → ℕ → ℕ → ℕ → Bool) → holds4 (λ a b c d. beq (f a b c d) (g a b c d)) ≡ true → (a b c d : ℕ) → a < 2 → b < 2 → c < 2 → d < 2 → f a b c d ≡ g a b c d
tests4_at f g h a b c d i j k l =
    same_test (f a b c d) (g a b c d) (holds4_at (λ a b c d. beq (f a b c d) (g a b c d)) h a b c d i j k l)

-- a bit of `p & !q`
pub bit_at_and_not : (p q i : ℕ) → q < 2 ^ 64 → i < 64 → bit_at (bit_and p (bit_not w64 q)) i ≡ min (bit_at p i) (1 - bit_at q i)
bit_at_and_not p q i h k =
    bit_at_and p (bit_not w64 q) i ∙ ap (λ b. min (bit_at p i) b) (bit_at_not w64 q i h k)

-- what is below 2 ^ w is below 2 ^ 64
pub below_64 : (w n : ℕ) → w ≤ 64 → n < 2 ^ w → n < 2 ^ 64
below_64 w n h k = omega (arith, pow-le-pow_right {n = 2} (omega arith) h)

pub and_below_left : (w a b : ℕ) → a < 2 ^ w → bit_and a b < 2 ^ w
and_below_left w a b h = omega (arith, and_le_l a b)

pub ones_below : (w : ℕ) → 2 ^ w - 1 < 2 ^ w
ones_below w = omega (arith, pow_pos w)

-- the planes of two vectors of one length have one width
pub same_width : (w v u w' v' u' : ℕ) (ds es : List Digit) → digits_of_planes w v u ≡ ds → digits_of_planes w' v' u' ≡ es → length ds ≡ length es → w' ≡ w
same_width w v u w' v' u' ds es p q l =
    sym (length-digits_of_planes w' v' u') ∙ ap length q ∙ sym l ∙ sym (ap length p) ∙ length-digits_of_planes w v u
