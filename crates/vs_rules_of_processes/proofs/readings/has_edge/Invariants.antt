use Rattle.vs_design.specs.declared.statement.EventTerm.{EventTerm}
use Rattle.vs_rules_of_processes.specs.ReadingPlaces.{IsEdgeOf}
use Rattle.vs_rules_of_processes.proofs.PairLemmas.{Before}
use Rattle.vs_rules_of_processes.proofs.readings.has_edge.Given as goal

abbrev pub invariant-loop-i : goal.invariant-loop-i
invariant-loop-i l = Before (λ (x : EventTerm). IsEdgeOf x l.v → ⊥) l.terms l.i
