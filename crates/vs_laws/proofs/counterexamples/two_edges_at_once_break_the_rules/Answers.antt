use Rattle.vs_laws.proofs.CounterexampleWaits.{two_edges}
use Rattle.vs_laws.proofs.counterexamples.two_edges_at_once_break_the_rules.Goals as goal

pub returns : goal.returns
returns c = two_edges
