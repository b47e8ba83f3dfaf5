-- The bits at which vectors differ.
use Rattle.std.proofs.Common.{◌≡◌, ℕ, zero, suc, ◌+◌, ◌-◌, ◌*◌, ◌/◌, ◌%◌, ◌^◌, ◌<◌, ◌≤◌, ◌==◌, ◌&&◌, not, max, Bool, true, false, Option, Some, None, List, [], ◌∷◌, length, take, drop, if◌then◌else◌, bit_and, bit_or, inl, inr, refl, sym, ◌∙◌, ap, ap₂, arith}
use Rattle.std.specs.Int.Bits.{bit_xor, or_step}
use Rattle.std.proofs.Math.Nat.{pow-succ', div-eq_of_lt, mod-eq_of_lt, pow-le-pow_right, div-div-eq-div-mul, zero-div, zero-mod, div-le_self}
use Rattle.std.proofs.lemmas.List.{length-take, length-drop}
use Rattle.std.proofs.Math.Arith.{mod-mul}
use Rattle.std.proofs.lemmas.Bool.{eqb-true, eq-eqb, cases_Bool, false≢true, false_from_ne_true}
use Rattle.std.proofs.lemmas.Nat.{and_mask, pow_pos, xor_shr, xor_mod}
use Rattle.vs_design.specs.vs_logic4.specs.declared.digit.Digit.{Digit}
use Rattle.vs_design.specs.vs_logic4.specs.declared.digit.Digit.TheVariants.{Zero, One, X, Z}
use Rattle.vs_design.specs.vs_logic4.specs.Planes.{value_bit, unknown_bit, value_plane, unknown_plane}
use Rattle.vs_design.specs.vs_logic4.specs.PlaneLaws.{value_bit-lt, unknown_bit-lt}
use Rattle.vs_design.specs.vs_logic4.specs.Vectors.{same_digit, same_digits}
use Rattle.vs_design.specs.declared.range.Bits.{Bits}
use Rattle.vs_design.specs.Stores.{chosen_bits}
use Rattle.vs_eval.specs.Differences.{difference, word_difference, has_some, bits_differ, HaveOneSize}

-- ---- from planes

half : (a n : ℕ) → a < 2 → (a + 2 * n) / 2 ≡ n
half a n h = omega arith

lowest : (a n : ℕ) → a < 2 → (a + 2 * n) % 2 ≡ a
lowest a n h = omega arith

-- what two planes differ in, without the lowest bit
xor_half : (a b n m : ℕ) → a < 2 → b < 2 → bit_xor (a + 2 * n) (b + 2 * m) / 2 ≡ bit_xor n m
xor_half a b n m h k = xor_shr (a + 2 * n) (b + 2 * m) 1 ∙ ap₂ bit_xor (half a n h) (half b m k)

-- and in the lowest bit
xor_lowest : (a b n m : ℕ) → a < 2 → b < 2 → bit_xor (a + 2 * n) (b + 2 * m) % 2 ≡ bit_xor a b
xor_lowest a b n m h k = xor_mod (a + 2 * n) (b + 2 * m) 1 ∙ ap₂ bit_xor (lowest a n h) (lowest b m k)

digit_differs : (d e : Digit) → max (bit_xor (value_bit d) (value_bit e)) (bit_xor (unknown_bit d) (unknown_bit e)) ≡ (if same_digit d e then 0 else 1)
digit_differs Zero Zero = refl
digit_differs Zero One = refl
digit_differs Zero X = refl
digit_differs Zero Z = refl
digit_differs One Zero = refl
digit_differs One One = refl
digit_differs One X = refl
digit_differs One Z = refl
digit_differs X Zero = refl
digit_differs X One = refl
digit_differs X X = refl
digit_differs X Z = refl
digit_differs Z Zero = refl
digit_differs Z One = refl
digit_differs Z X = refl
digit_differs Z Z = refl

-- what the planes of two vectors differ in
abbrev planes_differ : List Digit → List Digit → ℕ
planes_differ ds es = bit_or (bit_xor (value_plane ds) (value_plane es)) (bit_xor (unknown_plane ds) (unknown_plane es))

-- the places at which two vectors of one size differ are those at which a plane does
pub difference_of_planes : (ds es : List Digit) → length ds ≡ length es → planes_differ ds es ≡ difference ds es
difference_of_planes [] [] h = refl
difference_of_planes [] (e ∷ es) h = absurd (omega arith)
difference_of_planes (d ∷ ds) [] h = absurd (omega arith)
difference_of_planes (d ∷ ds) (e ∷ es) h =
    let v = bit_xor (value_bit d + 2 * value_plane ds) (value_bit e + 2 * value_plane es) in
    let u = bit_xor (unknown_bit d + 2 * unknown_plane ds) (unknown_bit e + 2 * unknown_plane es) in
    let halves : bit_or (v / 2) (u / 2) ≡ planes_differ ds es =
    ap₂ bit_or (xor_half (value_bit d) (value_bit e) (value_plane ds) (value_plane es) (value_bit-lt d) (value_bit-lt e))
    (xor_half (unknown_bit d) (unknown_bit e) (unknown_plane ds) (unknown_plane es) (unknown_bit-lt d) (unknown_bit-lt e))
    in
    let lowests : max (v % 2) (u % 2) ≡ (if same_digit d e then 0 else 1) =
    ap₂ max (xor_lowest (value_bit d) (value_bit e) (value_plane ds) (value_plane es) (value_bit-lt d) (value_bit-lt e))
    (xor_lowest (unknown_bit d) (unknown_bit e) (unknown_plane ds) (unknown_plane es) (unknown_bit-lt d) (unknown_bit-lt e))
    ∙ digit_differs d e
    in
    let rest : planes_differ ds es ≡ difference ds es = difference_of_planes ds es (omega arith) in
    or_step v u ∙ ap₂ (λ (a b : ℕ). a * 2 + b) (halves ∙ rest) lowests ∙ omega arith

-- ---- what a range of bits has of it

bit_below : (b : Bool) → (if b then 0 else 1) < 2
bit_below true = omega arith
bit_below false = omega arith

double_zero : (n : ℕ) → (2 * n == 0) ≡ (n == 0)
double_zero n = elim (cases_Bool (n == 0)) [
  | inl h ↦ let e : n ≡ 0 = eqb-true n 0 h in eq-eqb (2 * n) 0 (omega arith) ∙ sym h
  | inr h ↦ false_from_ne_true (2 * n == 0) (λ t. let e : 2 * n ≡ 0 = eqb-true (2 * n) 0 t in false≢true (sym h ∙ eq-eqb n 0 (omega arith))) ∙ sym h
]

-- a number is 0 where its lowest bit and its half are
zero_step : (b : Bool) (n : ℕ) → ((if b then 0 else 1) + 2 * n == 0) ≡ (b && (n == 0))
zero_step true n = let e : 0 + 2 * n ≡ 2 * n = omega arith in ap (λ m. m == 0) e ∙ double_zero n
zero_step false n = false_from_ne_true (1 + 2 * n == 0) (λ t. let e : 1 + 2 * n ≡ 0 = eqb-true (1 + 2 * n) 0 t in omega arith)

-- two vectors of one size are the same where they differ nowhere
difference_none : (ds es : List Digit) → length ds ≡ length es → (difference ds es == 0) ≡ same_digits ds es
difference_none [] [] h = refl
difference_none [] (e ∷ es) h = absurd (omega arith)
difference_none (d ∷ ds) [] h = absurd (omega arith)
difference_none (d ∷ ds) (e ∷ es) h =
    zero_step (same_digit d e) (difference ds es) ∙ ap (λ b. same_digit d e && b) (difference_none ds es (omega arith))

half_step : (c n low : ℕ) → c < 2 → n / 2 ^ low ≡ (c + 2 * n) / 2 ^ suc low
half_step c n low h =
    ap (λ m. m / 2 ^ low) (sym (half c n h)) ∙ div-div-eq-div-mul (c + 2 * n) 2 (2 ^ low) ∙ ap (λ m. (c + 2 * n) / m) (sym (pow-succ' 2 low))

lowest_step : (c n width : ℕ) → c < 2 → c + 2 * (n % 2 ^ width) ≡ (c + 2 * n) % 2 ^ suc width
lowest_step c n width h =
    let whole : (c + 2 * n) % (2 ^ width * 2) ≡ ((c + 2 * n) / 2 % 2 ^ width) * 2 + (c + 2 * n) % 2 = mod-mul (c + 2 * n) (pow_pos width) (omega arith) in
    let above : (c + 2 * n) / 2 % 2 ^ width ≡ n % 2 ^ width = ap (λ m. m % 2 ^ width) (half c n h) in
    let first : (c + 2 * n) % 2 ≡ c = lowest c n h in
    let power : 2 ^ suc width ≡ 2 ^ width * 2 = omega (arith, pow-succ' 2 width) in
    omega (arith, above, first) ∙ sym whole ∙ ap (λ m. (c + 2 * n) % m) (sym power)

difference_drop : (low : ℕ) (ds es : List Digit) → length ds ≡ length es → difference (drop low ds) (drop low es) ≡ difference ds es / 2 ^ low
difference_drop zero ds es h = omega arith
difference_drop (suc low) [] [] h = sym (zero-div (2 ^ suc low))
difference_drop (suc low) [] (e ∷ es) h = absurd (omega arith)
difference_drop (suc low) (d ∷ ds) [] h = absurd (omega arith)
difference_drop (suc low) (d ∷ ds) (e ∷ es) h =
    difference_drop low ds es (omega arith) ∙ half_step (if same_digit d e then 0 else 1) (difference ds es) low (bit_below (same_digit d e))

difference_take : (width : ℕ) (ds es : List Digit) → length ds ≡ length es → difference (take width ds) (take width es) ≡ difference ds es % 2 ^ width
difference_take zero ds es h = omega arith
difference_take (suc width) [] [] h = sym (zero-mod (2 ^ suc width))
difference_take (suc width) [] (e ∷ es) h = absurd (omega arith)
difference_take (suc width) (d ∷ ds) [] h = absurd (omega arith)
difference_take (suc width) (d ∷ ds) (e ∷ es) h =
    let c : ℕ = if same_digit d e then 0 else 1 in
    ap (λ n. c + 2 * n) (difference_take width ds es (omega arith)) ∙ lowest_step c (difference ds es) width (bit_below (same_digit d e))

length_taken : (low width : ℕ) (ds es : List Digit) → length ds ≡ length es → length (take width (drop low ds)) ≡ length (take width (drop low es))
length_taken low width ds es h = omega (arith, length-take width (drop low ds), length-take width (drop low es), length-drop low ds, length-drop low es)

length_dropped : (low : ℕ) (ds es : List Digit) → length ds ≡ length es → length (drop low ds) ≡ length (drop low es)
length_dropped low ds es h = omega (arith, length-drop low ds, length-drop low es)

-- a range of bits has a place at which two vectors differ where its bits do
has_some_differ : (bits : Option Bits) (ds es : List Digit) → length ds ≡ length es → has_some bits (difference ds es) ≡ not (same_digits (chosen_bits bits ds) (chosen_bits bits es))
has_some_differ None ds es h = ap not (difference_none ds es h)
has_some_differ (Some b) ds es h =
    let long = length_taken b.low b.width ds es h in
    ap not (ap (λ n. n % 2 ^ b.width == 0) (sym (difference_drop b.low ds es h)) ∙ ap (λ n. n == 0) (sym (difference_take b.width (drop b.low ds) (drop b.low es) (length_dropped b.low ds es h)))
    ∙ difference_none (take b.width (drop b.low ds)) (take b.width (drop b.low es)) long)

has_none : (bits : Option Bits) → has_some bits 0 ≡ false
has_none None = refl
has_none (Some b) = ap (λ n. not (n % 2 ^ b.width == 0)) (zero-div (2 ^ b.low)) ∙ ap (λ n. not (n == 0)) (zero-mod (2 ^ b.width))

one_size : (a b : ℕ) → Some a ≡ Some b → a ≡ b
one_size a b h = cc

-- a range of bits has a place at which two values of a word differ where its bits do
pub sees_difference : (bits : Option Bits) (before behind : Option (List Digit)) → HaveOneSize before behind → has_some bits (word_difference before behind) ≡ bits_differ bits before behind
sees_difference bits None None h = has_none bits
sees_difference bits None (Some es) h = cc
sees_difference bits (Some ds) None h = cc
sees_difference bits (Some ds) (Some es) h = has_some_differ bits ds es (one_size (length ds) (length es) h)

-- ---- in code

-- a number has none of the bits from 64 on
pub past_bits : (number low width : ℕ) → number < 2 ^ 64 → 63 < low → not (number / 2 ^ low % 2 ^ width == 0) ≡ false
past_bits number low width h k =
    let none : number / 2 ^ low ≡ 0 = div-eq_of_lt (omega (arith, pow-le-pow_right {n = 2} (omega arith) {i = 64} {j = low} (omega arith))) in
    ap (λ n. not (n % 2 ^ width == 0)) none ∙ ap (λ n. not (n == 0)) (zero-mod (2 ^ width))

-- all of its bits from a place on
pub all_bits : (number low width : ℕ) → number < 2 ^ 64 → 63 < width → number / 2 ^ low % 2 ^ width ≡ number / 2 ^ low
all_bits number low width h k =
    let below : number / 2 ^ low ≤ number = div-le_self number (2 ^ low) in
    mod-eq_of_lt (omega (arith, below, pow-le-pow_right {n = 2} (omega arith) {i = 64} {j = width} (omega arith)))

-- those of so many bits from a place on
pub some_bits : (number low width : ℕ) → width ≤ 63 → bit_and (number / 2 ^ low) (1 * 2 ^ width % 2 ^ 64 - 1) ≡ number / 2 ^ low % 2 ^ width
some_bits number low width h =
    let below : 2 ^ width ≤ 2 ^ 63 = pow-le-pow_right {n = 2} (omega arith) {i = width} {j = 63} h in
    let whole : 1 * 2 ^ width % 2 ^ 64 ≡ 2 ^ width = omega (arith, below) in
    ap (λ n. bit_and (number / 2 ^ low) (n - 1)) whole ∙ and_mask (number / 2 ^ low) width
