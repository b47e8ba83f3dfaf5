use Rattle.vs_propose.proofs.Gathered.{NeedsBelow}
use Rattle.vs_propose.proofs.order.needs_of.Given as goal

abbrev pub invariant-loop-x : goal.invariant-loop-x
invariant-loop-x l = NeedsBelow l.design l.x l.needs.items
