use Rattle.std.proofs.Common.{◌≡◌, ℕ}
use Rattle.std.specs.List.{Contains}
use Rattle.vs_rules_of_processes.proofs.PairLemmas.{Before}
use Rattle.vs_rules_of_processes.proofs.lists.are_same.Given as goal

abbrev pub invariant-loop-x : goal.invariant-loop-x
invariant-loop-x l = Before (λ (x : ℕ). (y : ℕ) → Contains l.b y → x ≡ y) l.a l.x-index
