-- Depths of forms in rows.
use Rattle.std.proofs.Common.{◌≡◌, ℕ, ◌+◌, ◌*◌, max, ◌<◌, ◌≤◌, List, length, get_or, ap, arith}
use denote.Param.Weighed.{most, at_most}
use Rattle.vs_design.specs.vs_logic4.proofs.Basics.{first_most, second_most}

-- what is in an element of a list is no deeper than the list
pub falls_in : {X : Type 0} (depth : X → ℕ) (xs : List X) (i t n : ℕ) (a : X) → i < length xs → a ≡ get_or xs i a → 2 * most depth xs + 1 ≡ t → n ≤ depth a → 2 * n + 0 < t
falls_in depth xs i t n a h j e l =
    let m : depth (get_or xs i a) ≤ most depth xs = at_most depth xs i a h in
    let same : depth a ≡ depth (get_or xs i a) = ap depth j in
    omega (arith, e, l, m, same)
