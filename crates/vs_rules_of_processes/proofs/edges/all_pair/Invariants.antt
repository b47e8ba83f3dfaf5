use Rattle.std.proofs.Common.{◌≡◌, ℕ, Some, slice_get}
use Rattle.vs_rules_of_processes.specs.declared.edges.Term.{Term}
use Rattle.vs_rules_of_processes.specs.EdgePlaces.{IsPair}
use Rattle.vs_rules_of_processes.proofs.PairLemmas.{Before}
use Rattle.vs_rules_of_processes.proofs.edges.all_pair.Given as goal

abbrev pub invariant-loop-a : goal.invariant-loop-a
invariant-loop-a l = Before (λ (a : Term). (k : ℕ) (b : Term) → slice_get l.terms k ≡ Some b → IsPair a b) l.terms l.a-index
