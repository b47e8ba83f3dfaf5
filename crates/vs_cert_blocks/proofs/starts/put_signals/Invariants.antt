use Rattle.vs_cert_blocks.specs.Starts.{ArePut}
use Rattle.vs_cert_blocks.proofs.starts.put_signals.Given as goal

abbrev pub invariant-loop-range : goal.invariant-loop-range
invariant-loop-range l = ArePut l.fn.starts l.starts l.seen l.place
