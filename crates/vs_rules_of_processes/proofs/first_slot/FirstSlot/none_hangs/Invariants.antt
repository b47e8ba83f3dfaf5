use Rattle.vs_rules_of_processes.proofs.PlaceLemmas.{FreeSoFar}
use Rattle.vs_rules_of_processes.proofs.first_slot.FirstSlot.none_hangs.Given as goal

abbrev pub invariant-loop-range : goal.invariant-loop-range
invariant-loop-range l = FreeSoFar l.self.design l.self.claims l.ranges l.range-index
