use Rattle.vs_laws.proofs.CounterexampleReads.{delay_behind}
use Rattle.vs_laws.proofs.counterexamples.a_delay_after_an_edge_breaks_the_rules.Goals as goal

pub returns : goal.returns
returns c = delay_behind
