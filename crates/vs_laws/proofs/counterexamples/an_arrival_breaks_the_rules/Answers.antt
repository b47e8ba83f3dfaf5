use Rattle.vs_laws.proofs.CounterexampleWaits.{arrival}
use Rattle.vs_laws.proofs.counterexamples.an_arrival_breaks_the_rules.Goals as goal

pub returns : goal.returns
returns c = arrival
