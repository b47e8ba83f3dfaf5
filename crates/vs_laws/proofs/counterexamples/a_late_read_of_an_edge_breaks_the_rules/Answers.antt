use Rattle.vs_laws.proofs.CounterexampleReads.{late_read}
use Rattle.vs_laws.proofs.counterexamples.a_late_read_of_an_edge_breaks_the_rules.Goals as goal

pub returns : goal.returns
returns c = late_read
