-- For each kind of edge there is a number that has the places at which a word changes so.
use Rattle.std.proofs.Common.{◌≡◌, ℕ, zero, suc, ◌+◌, ◌*◌, ◌/◌, ◌^◌, ◌<◌, ◌≤◌, ◌==◌, Bool, true, false, List, [], ◌∷◌, length, get_or, refl, sym, ◌∙◌, ap, arith}
use Rattle.std.specs.Int.{bit_at}
use Rattle.std.proofs.Math.Nat.{pow-le-pow_right}
use Rattle.std.proofs.lemmas.Nat.Bits.{bit_at-suc, bit_at-zero, bit_at_lowest}
use Rattle.vs_design.specs.vs_logic4.specs.declared.digit.Digit.{Digit}
use Rattle.vs_design.specs.vs_logic4.specs.declared.digit.Digit.TheVariants.{Zero, One}
use Rattle.vs_design.specs.vs_logic4.specs.declared.edge.Edge.{Edge}
use Rattle.vs_design.specs.vs_logic4.specs.declared.edge.Edge.TheVariants.{Posedge, Negedge}
use Rattle.vs_design.specs.vs_logic4.specs.Edges.{is_edge}
use Rattle.vs_design.specs.vs_logic4.specs.PlaneLaws.{value_plane-lt}
use Rattle.vs_design.specs.vs_logic4.specs.Planes.{value_bit, value_plane}
use Rattle.vs_run_active.specs.vs_eval.specs.Masks.{AreEdges}

-- a one where there is an edge
edge_digit : Bool → Digit
edge_digit true = One
edge_digit false = Zero

edge_digits : Edge → List Digit → List Digit → List Digit
edge_digits e [] after = []
edge_digits e (b ∷ before) [] = []
edge_digits e (b ∷ before) (a ∷ after) = edge_digit (is_edge e b a) ∷ edge_digits e before after

digits_long : (e : Edge) (before after : List Digit) → length (edge_digits e before after) ≤ length before
unfolding edge_digits
digits_long e [] after = omega arith
digits_long e (b ∷ before) [] = omega arith
digits_long e (b ∷ before) (a ∷ after) = let rest = digits_long e before after in omega (arith, rest)

bit_below : (t : Bool) → value_bit (edge_digit t) < 2
unfolding edge_digit
bit_below true = omega arith
bit_below false = omega arith

is_bit : (t : Bool) → (value_bit (edge_digit t) == 1) ≡ t
unfolding edge_digit
is_bit true = refl
is_bit false = refl

bit_first : (b m : ℕ) → b < 2 → bit_at (b + 2 * m) 0 ≡ b
bit_first b m h = bit_at_lowest (b + 2 * m) ∙ omega arith

bit_later : (b m i : ℕ) → b < 2 → bit_at (b + 2 * m) (suc i) ≡ bit_at m i
bit_later b m i h = let half : (b + 2 * m) / 2 ≡ m = omega arith in bit_at-suc (b + 2 * m) i ∙ ap (λ n. bit_at n i) half

edges_at : (e : Edge) (before after : List Digit) → length before ≡ length after → is_edge e Zero Zero ≡ false → (place : ℕ) →
    (bit_at (value_plane (edge_digits e before after)) place == 1) ≡ is_edge e (get_or before place Zero) (get_or after place Zero)
unfolding edge_digits
edges_at e [] [] same quiet zero = ap (λ n. n == 1) (bit_at-zero zero) ∙ sym quiet
edges_at e [] [] same quiet (suc i) = ap (λ n. n == 1) (bit_at-zero (suc i)) ∙ sym quiet
edges_at e [] (a ∷ after) same quiet place = absurd (omega (arith, same))
edges_at e (b ∷ before) [] same quiet place = absurd (omega (arith, same))
edges_at e (b ∷ before) (a ∷ after) same quiet zero =
    ap (λ n. n == 1) (bit_first (value_bit (edge_digit (is_edge e b a))) (value_plane (edge_digits e before after)) (bit_below (is_edge e b a))) ∙ is_bit (is_edge e b a)
edges_at e (b ∷ before) (a ∷ after) same quiet (suc i) =
    ap (λ n. n == 1) (bit_later (value_bit (edge_digit (is_edge e b a))) (value_plane (edge_digits e before after)) i (bit_below (is_edge e b a)))
    ∙ edges_at e before after (omega (arith, same)) quiet i

-- the number of an edge's places
pub edge_number : Edge → List Digit → List Digit → ℕ
edge_number e before after = value_plane (edge_digits e before after)

pub edge_number-fits : (e : Edge) (before after : List Digit) → length before ≤ 64 → edge_number e before after < 2 ^ 64
unfolding edge_number
edge_number-fits e before after short =
    let long : length (edge_digits e before after) ≤ 64 = omega (arith, digits_long e before after) in
    let most : 2 ^ length (edge_digits e before after) ≤ 2 ^ 64 = pow-le-pow_right {n = 2} (omega arith) long in
    omega (arith, most, value_plane-lt (edge_digits e before after))

pub rises-are : (before after : List Digit) → length before ≡ length after → AreEdges Posedge before after (edge_number Posedge before after)
unfolding edge_number
rises-are before after same = λ place within. edges_at Posedge before after same refl place

pub falls-are : (before after : List Digit) → length before ≡ length after → AreEdges Negedge before after (edge_number Negedge before after)
unfolding edge_number
falls-are before after same = λ place within. edges_at Negedge before after same refl place
