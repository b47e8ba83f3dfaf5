use Rattle.vs_rules_of_processes.proofs.PlaceLemmas.{OwnSoFar}
use Rattle.vs_rules_of_processes.proofs.first_slot.FirstSlot.are_own.Given as goal

abbrev pub invariant-loop-range : goal.invariant-loop-range
invariant-loop-range l = OwnSoFar l.self.design l.self.claims l.i l.ranges l.range-index
