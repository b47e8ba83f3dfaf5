use Rattle.vs_slots.proofs.RunLemmas.{runs_are_exact}
use Rattle.vs_slots.proofs.laws.runs_are_exact.Goals as goal

pub returns : goal.returns
returns c = runs_are_exact
