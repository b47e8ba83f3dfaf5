use Rattle.vs_slots.proofs.RunLemmas.{delay_runs_are_exact}
use Rattle.vs_slots.proofs.laws.delay_runs_are_exact.Goals as goal

pub returns : goal.returns
returns c = delay_runs_are_exact
