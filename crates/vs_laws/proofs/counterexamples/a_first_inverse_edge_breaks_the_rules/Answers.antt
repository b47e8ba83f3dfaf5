use Rattle.vs_laws.proofs.CounterexampleReads.{first_inverse}
use Rattle.vs_laws.proofs.counterexamples.a_first_inverse_edge_breaks_the_rules.Goals as goal

pub returns : goal.returns
returns c = first_inverse
