use Rattle.vs_slots_constants.proofs.OtherLemmas.{SoFar}
use Rattle.vs_slots_constants.proofs.clocks.other.Given as goal

abbrev pub invariant-loop-x : goal.invariant-loop-x
invariant-loop-x l = SoFar l.xs l.i l.x-index l.found
