use Rattle.vs_rules_of_processes.specs.EdgePlaces.{IsPair}
use Rattle.vs_rules_of_processes.proofs.PairLemmas.{Before}
use Rattle.vs_rules_of_processes.proofs.edges.all_pair_with.Given as goal

abbrev pub invariant-loop-b : goal.invariant-loop-b
invariant-loop-b l = Before (IsPair l.a) l.others l.b-index
