use Rattle.vs_propose.proofs.Gathered.{PutBelow}
use Rattle.vs_propose.proofs.order.put_needed.Given as goal

abbrev pub invariant-loop-written : goal.invariant-loop-written
invariant-loop-written l = PutBelow l.design l.row l.range l.fn.needed.items l.written-index l.needed.items
