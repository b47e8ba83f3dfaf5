-- Edges by the planes of words.
use Rattle.std.proofs.Common.{◌≡◌, ℕ, zero, suc, ◌+◌, ◌-◌, ◌*◌, ◌/◌, ◌%◌, ◌^◌, ◌<◌, ◌≤◌, ◌==◌, min, max, Bool, true, false, Option, None, List, [], ◌∷◌, length, take, drop, get_or, bit_and, bit_or, w64, refl, sym, ◌∙◌, ap, ap₂, arith}
use Rattle.std.specs.Int.{bit_at, bit_not}
use Rattle.std.specs.Int.Bits.{bit_xor}
use Rattle.std.proofs.lemmas.Nat.Bits.{bit_at_and, bit_at_or, bit_at_xor, bit_at_not}
use Rattle.std.proofs.lemmas.List.{drop_all}
use Rattle.std.specs.Bool.{beq}
use Rattle.std.proofs.Math.Nat.{pow-succ', div-div-eq-div-mul, zero-div}
use Rattle.vs_design.specs.vs_logic4.specs.declared.digit.Digit.{Digit}
use Rattle.vs_design.specs.vs_logic4.specs.declared.digit.Digit.TheVariants.{Zero, One, X, Z}
use Rattle.vs_design.specs.vs_logic4.specs.declared.edge.Edge.{Edge}
use Rattle.vs_design.specs.vs_logic4.specs.declared.edge.Edge.TheVariants.{Any, Posedge, Negedge}
use Rattle.vs_design.specs.vs_logic4.specs.Edges.{is_edge}
use Rattle.vs_design.specs.vs_logic4.specs.Planes.{digit_of_bits, value_bit, unknown_bit, value_plane, unknown_plane}
use Rattle.vs_design.specs.vs_logic4.specs.PlaneLaws.{value_bit-lt, unknown_bit-lt, digit_of_bits-of}
use Rattle.vs_design.specs.vs_logic4.proofs.Bits.{holds4, tests4_at}
use Rattle.vs_eval.specs.Waking.{first_digit, is_edge_of}

-- ---- the bits of a plane

-- a bit of a number above its lowest one
bit_above : (a n i : ℕ) → a < 2 → bit_at (a + 2 * n) (suc i) ≡ bit_at n i
bit_above a n i h =
    let half : (a + 2 * n) / 2 ≡ n = omega arith in
    ap (λ (m : ℕ). (a + 2 * n) / m % 2) (pow-succ' 2 i)
    ∙ ap (λ (m : ℕ). m % 2) (sym (div-div-eq-div-mul (a + 2 * n) 2 (2 ^ i)))
    ∙ ap (λ (m : ℕ). m / 2 ^ i % 2) half

bit_lowest : (a n : ℕ) → a < 2 → bit_at (a + 2 * n) 0 ≡ a
bit_lowest a n h = omega arith

value_at : (ds : List Digit) (i : ℕ) → bit_at (value_plane ds) i ≡ value_bit (get_or ds i Zero)
value_at [] i = ap (λ (m : ℕ). m % 2) (zero-div (2 ^ i))
value_at (d ∷ ds) zero = bit_lowest (value_bit d) (value_plane ds) (value_bit-lt d)
value_at (d ∷ ds) (suc i) = bit_above (value_bit d) (value_plane ds) i (value_bit-lt d) ∙ value_at ds i

unknown_at : (ds : List Digit) (i : ℕ) → bit_at (unknown_plane ds) i ≡ unknown_bit (get_or ds i Zero)
unknown_at [] i = ap (λ (m : ℕ). m % 2) (zero-div (2 ^ i))
unknown_at (d ∷ ds) zero = bit_lowest (unknown_bit d) (unknown_plane ds) (unknown_bit-lt d)
unknown_at (d ∷ ds) (suc i) = bit_above (unknown_bit d) (unknown_plane ds) i (unknown_bit-lt d) ∙ unknown_at ds i

-- ---- edges

-- an edge by the bits of the digits before and behind
pub edge_bits : Edge → ℕ → ℕ → ℕ → ℕ → ℕ
edge_bits Any a b c d = max ((a + c) % 2) ((b + d) % 2)
edge_bits Posedge a b c d = max (min (min (1 - a) (1 - b)) (max c d)) (min (min b c) (1 - d))
edge_bits Negedge a b c d = max (min (min a (1 - b)) (max (1 - c) d)) (min (min b (1 - c)) (1 - d))

is_listed : Edge → ℕ → ℕ → ℕ → ℕ → Bool
is_listed edge a b c d = edge_bits edge a b c d == 1

by_digits : Edge → ℕ → ℕ → ℕ → ℕ → Bool
by_digits edge a b c d = is_edge edge (digit_of_bits a b) (digit_of_bits c d)

all_listed : (edge : Edge) → holds4 (λ a b c d. beq (is_listed edge a b c d) (by_digits edge a b c d)) ≡ true
unfolding is_listed by_digits edge_bits
all_listed Any = refl
all_listed Posedge = refl
all_listed Negedge = refl

edge_by_bits : (edge : Edge) (d e : Digit) → (edge_bits edge (value_bit d) (unknown_bit d) (value_bit e) (unknown_bit e) == 1) ≡ is_edge edge d e
unfolding is_listed by_digits
edge_by_bits edge d e =
    tests4_at (is_listed edge) (by_digits edge) (all_listed edge) (value_bit d) (unknown_bit d) (value_bit e) (unknown_bit e)
    (value_bit-lt d) (unknown_bit-lt d) (value_bit-lt e) (unknown_bit-lt e)
    ∙ ap₂ (is_edge edge) (digit_of_bits-of d) (digit_of_bits-of e)

-- ---- edges by the planes

pub posedge_at : (v u w t i : ℕ) → v < 2 ^ 64 → u < 2 ^ 64 → t < 2 ^ 64 → i < 64 →
    bit_at (bit_or (bit_and (bit_and (bit_not w64 v) (bit_not w64 u)) (bit_or w t)) (bit_and (bit_and u w) (bit_not w64 t))) i ≡ edge_bits Posedge (bit_at v i) (bit_at u i) (bit_at w i) (bit_at t i)
unfolding edge_bits
posedge_at v u w t i hv hu ht h =
    bit_at_or _ _ i
    ∙ ap₂ max
    (bit_at_and _ _ i ∙ ap₂ min (bit_at_and _ _ i ∙ ap₂ min (bit_at_not w64 v i hv h) (bit_at_not w64 u i hu h)) (bit_at_or w t i))
    (bit_at_and _ _ i ∙ ap₂ min (bit_at_and u w i) (bit_at_not w64 t i ht h))

pub negedge_at : (v u w t i : ℕ) → u < 2 ^ 64 → w < 2 ^ 64 → t < 2 ^ 64 → i < 64 →
    bit_at (bit_or (bit_and (bit_and v (bit_not w64 u)) (bit_or (bit_not w64 w) t)) (bit_and (bit_and u (bit_not w64 w)) (bit_not w64 t))) i ≡ edge_bits Negedge (bit_at v i) (bit_at u i) (bit_at w i) (bit_at t i)
unfolding edge_bits
negedge_at v u w t i hu hw ht h =
    bit_at_or _ _ i
    ∙ ap₂ max
    (bit_at_and _ _ i ∙ ap₂ min (bit_at_and _ _ i ∙ ap (min (bit_at v i)) (bit_at_not w64 u i hu h)) (bit_at_or _ t i ∙ ap (λ (n : ℕ). max n (bit_at t i)) (bit_at_not w64 w i hw h)))
    (bit_at_and _ _ i ∙ ap₂ min (bit_at_and u _ i ∙ ap (min (bit_at u i)) (bit_at_not w64 w i hw h)) (bit_at_not w64 t i ht h))

pub any_at : (v u w t i : ℕ) → bit_at (bit_or (bit_xor v w) (bit_xor u t)) i ≡ edge_bits Any (bit_at v i) (bit_at u i) (bit_at w i) (bit_at t i)
unfolding edge_bits
any_at v u w t i = bit_at_or _ _ i ∙ ap₂ max (bit_at_xor v w i) (bit_at_xor u t i)

-- a number of which the bit at a place is this one of the bits of the planes there has the edge of the digits
pub edge_at_place : (edge : Edge) (ds es : List Digit) {v u w t : ℕ} (number place : ℕ) → v ≡ value_plane ds → u ≡ unknown_plane ds → w ≡ value_plane es → t ≡ unknown_plane es →
    bit_at number place ≡ edge_bits edge (bit_at v place) (bit_at u place) (bit_at w place) (bit_at t place) → (bit_at number place == 1) ≡ is_edge edge (get_or ds place Zero) (get_or es place Zero)
edge_at_place edge ds es {v} {u} {w} {t} number place hv hu hw ht h =
    let at : ℕ → ℕ = λ n. bit_at n place in
    ap (λ (n : ℕ). n == 1)
    (h ∙ ap₂ (λ (a b : ℕ). edge_bits edge a b (at w) (at t)) (ap at hv ∙ value_at ds place) (ap at hu ∙ unknown_at ds place)
    ∙ ap₂ (edge_bits edge (value_bit (get_or ds place Zero)) (unknown_bit (get_or ds place Zero))) (ap at hw ∙ value_at es place) (ap at ht ∙ unknown_at es place))
    ∙ edge_by_bits edge (get_or ds place Zero) (get_or es place Zero)

no_edge : (edge : Edge) → is_edge edge Zero Zero ≡ false
no_edge Any = refl
no_edge Posedge = refl
no_edge Negedge = refl

-- an edge of the lowest digits of two words of one size
pub edge_lowest : (edge : Edge) (ds es : List Digit) → length ds ≡ length es → is_edge edge (get_or ds 0 Zero) (get_or es 0 Zero) ≡ is_edge_of edge (first_digit ds) (first_digit es)
edge_lowest edge [] [] h = no_edge edge
edge_lowest edge [] (e ∷ es) h = absurd (omega arith)
edge_lowest edge (d ∷ ds) [] h = absurd (omega arith)
edge_lowest edge (d ∷ ds) (e ∷ es) h = refl

-- and of the lowest of so many digits from a place on
pub edge_taken : (edge : Edge) (low width : ℕ) (ds es : List Digit) → length ds ≡ length es → 0 < width →
    is_edge edge (get_or ds low Zero) (get_or es low Zero) ≡ is_edge_of edge (first_digit (take width (drop low ds))) (first_digit (take width (drop low es)))
edge_taken edge low zero ds es h some = absurd (omega arith)
edge_taken edge zero (suc width) [] [] h some = no_edge edge
edge_taken edge zero (suc width) [] (e ∷ es) h some = absurd (omega arith)
edge_taken edge zero (suc width) (d ∷ ds) [] h some = absurd (omega arith)
edge_taken edge zero (suc width) (d ∷ ds) (e ∷ es) h some = refl
edge_taken edge (suc low) (suc width) [] [] h some = no_edge edge
edge_taken edge (suc low) (suc width) [] (e ∷ es) h some = absurd (omega arith)
edge_taken edge (suc low) (suc width) (d ∷ ds) [] h some = absurd (omega arith)
edge_taken edge (suc low) (suc width) (d ∷ ds) (e ∷ es) h some = edge_taken edge low (suc width) ds es (omega arith) some

no_digits : (width : ℕ) → first_digit (take width []) ≡ None
no_digits zero = refl
no_digits (suc width) = refl

-- no edge where the range has no bit
pub no_edge_in_none : (edge : Edge) (low width : ℕ) (ds es : List Digit) → width ≡ 0 →
    false ≡ is_edge_of edge (first_digit (take width (drop low ds))) (first_digit (take width (drop low es)))
no_edge_in_none edge low zero ds es h = refl
no_edge_in_none edge low (suc width) ds es h = absurd (omega arith)

-- no edge where the word ends below the range
pub no_edge_past : (edge : Edge) (low width : ℕ) (ds es : List Digit) → length ds ≤ low →
    false ≡ is_edge_of edge (first_digit (take width (drop low ds))) (first_digit (take width (drop low es)))
no_edge_past edge low width ds es h =
    sym (ap (λ (o : Option Digit). is_edge_of edge o (first_digit (take width (drop low es))))
    (ap (λ (xs : List Digit). first_digit (take width xs)) (drop_all low ds h) ∙ no_digits width))
