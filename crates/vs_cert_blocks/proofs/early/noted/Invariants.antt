use Rattle.vs_cert_blocks.proofs.EarlyLemmas.{NotedSoFar}
use Rattle.vs_cert_blocks.proofs.early.noted.Given as goal

abbrev pub invariant-loop-range : goal.invariant-loop-range
invariant-loop-range l = NotedSoFar l.ranges l.range-index l.fn.seen l.all
