use Rattle.vs_laws.proofs.CounterexampleWaits.{two_signals}
use Rattle.vs_laws.proofs.counterexamples.two_signals_of_a_root_break_the_rules.Goals as goal

pub returns : goal.returns
returns c = two_signals
