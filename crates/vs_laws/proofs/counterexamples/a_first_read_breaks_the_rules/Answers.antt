use Rattle.vs_laws.proofs.CounterexampleReads.{first_read}
use Rattle.vs_laws.proofs.counterexamples.a_first_read_breaks_the_rules.Goals as goal

pub returns : goal.returns
returns c = first_read
