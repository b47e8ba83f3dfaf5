-- Depths of expressions.
use Rattle.std.proofs.Common.{◌≡◌, ℕ, ◌+◌, ◌*◌, max, ◌<◌, ◌≤◌, List, length, get_or, ap, arith}
use denote.Param.Weighed.{most, at_most}
use Rattle.std.proofs.Math.Nat.{mul-le-mul_left}
use Rattle.vs_design.specs.vs_logic4.specs.declared.operators.Binary.{Binary}
use Rattle.vs_syntax.specs.declared.tree.Expr.{Expr, size-Expr}
use Rattle.vs_design.specs.vs_logic4.proofs.Basics.{second_most as middle_most}

-- the depth of the deepest of some expressions
abbrev pub parts_depth : List Expr → ℕ
parts_depth es = most size-Expr es

-- that of the deepest behind operators
abbrev pub links_depth : List (Binary × Expr) → ℕ
links_depth ls = most (λ (l : Binary × Expr). max 0 (max (size-Expr l.1) 0)) ls

-- that of the deepest among conditions and the operands behind them
abbrev pub pairs_depth : List (Expr × Expr) → ℕ
pairs_depth ps = most (λ (p : Expr × Expr). max (size-Expr p.0) (max (size-Expr p.1) 0)) ps

pub first_most : (a b : ℕ) → a ≤ max a b
first_most a b = omega arith

-- an expression of an element of a list is no deeper than the list
pub falls_by : {X : Type 0} (k : ℕ) (depth : X → ℕ) (xs : List X) (i t n : ℕ) (a : X) → i < length xs → a ≡ get_or xs i a → k * most depth xs + 1 ≡ t → n ≤ depth a → k * n + 0 < t
falls_by k depth xs i t n a h j e l =
    let m : depth (get_or xs i a) ≤ most depth xs = at_most depth xs i a h in
    let same : depth a ≡ depth (get_or xs i a) = ap depth j in
    let all : k * n ≤ k * most depth xs = mul-le-mul_left k (omega arith) in
    omega arith

-- a part is no deeper than the whole
pub falls_one : (k n whole t : ℕ) → n ≤ whole → k * whole + 1 ≡ t → k * n + 0 < t
falls_one k n whole t h e = let all : k * n ≤ k * whole = mul-le-mul_left k h in omega arith

-- an expression of an element of a list is no deeper than a whole that the list is a part of
pub falls_within : {X : Type 0} (k : ℕ) (depth : X → ℕ) (xs : List X) (i t n whole : ℕ) (a : X) → i < length xs → a ≡ get_or xs i a → most depth xs ≤ whole → k * whole + 1 ≡ t → n ≤ depth a → k * n + 0 < t
falls_within k depth xs i t n whole a h j l e m =
    let deep : depth (get_or xs i a) ≤ most depth xs = at_most depth xs i a h in
    let same : depth a ≡ depth (get_or xs i a) = ap depth j in
    falls_one k n whole t (omega arith) e

pub second_most : (a b : ℕ) → b ≤ max a b
second_most a b = omega arith
