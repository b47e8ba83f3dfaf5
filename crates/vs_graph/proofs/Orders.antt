-- Numbers that don't fall.
use Rattle.std.proofs.Common.{ℕ, Bool, true, false, IsTrue, List, arith}
use Rattle.std.specs.Bool.{MatchBool}
use Rattle.std.specs.List.Sorted.{IsNonDecreasing}

pub where_sorted : (xs : List ℕ) (b : Bool) (else_so : Type 0) → MatchBool b (IsNonDecreasing xs) else_so → IsTrue b → IsNonDecreasing xs
where_sorted xs true other h t = h
where_sorted xs false other h t = absurd (grind (arith, t))
