use Rattle.vs_rules_of_starts.proofs.OutputLemmas.{SameBelow}
use Rattle.vs_rules_of_starts.proofs.outputs.is_same_written.Given as goal

abbrev pub invariant-loop-range : goal.invariant-loop-range
invariant-loop-range l = SameBelow l.range-items l.range-index l.a l.b
