use Rattle.vs_laws.proofs.CounterexampleWaits.{inverse_edge}
use Rattle.vs_laws.proofs.counterexamples.an_inverse_edge_breaks_the_rules.Goals as goal

pub returns : goal.returns
returns c = inverse_edge
