-- Depths of expressions in selects.
use Rattle.std.proofs.Common.{◌≡◌, ℕ, suc, ◌+◌, ◌*◌, max, ◌<◌, ◌≤◌, List, length, get_or, ap, arith}
use denote.Param.Weighed.{most, at_most}
use Rattle.std.proofs.Math.Nat.{mul-le-mul_left}
use Rattle.vs_syntax.specs.vs_logic4.proofs.Basics.{first_most, second_most}

-- what is in an element of a list is no deeper than the list
pub falls_in : {X : Type 0} (k o : ℕ) (depth : X → ℕ) (xs : List X) (i t n : ℕ) (a : X) → i < length xs → a ≡ get_or xs i a → k * most depth xs + suc o ≡ t → n ≤ depth a → k * n + o < t
falls_in k o depth xs i t n a h j e l =
    let m : depth (get_or xs i a) ≤ most depth xs = at_most depth xs i a h in
    let same : depth a ≡ depth (get_or xs i a) = ap depth j in
    let all : k * n ≤ k * most depth xs = mul-le-mul_left k (omega (arith, l, m, same)) in
    omega (arith, e, all)

-- the second part of two is no deeper than both
pub falls_second : (k o a b t : ℕ) → k * max a (max b 0) + suc o ≡ t → k * b + o < t
falls_second k o a b t e =
    let all : k * b ≤ k * max a (max b 0) = mul-le-mul_left k (second_most a b) in
    omega (arith, e, all)
