use Rattle.vs_propose.proofs.Gathered.{GatheredBelow}
use Rattle.vs_propose.proofs.order.needed_by.Given as goal

abbrev pub invariant-loop-range : goal.invariant-loop-range
invariant-loop-range l = GatheredBelow l.design l.reader l.ranges l.range-index l.needed.items
