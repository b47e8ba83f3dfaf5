use Rattle.vs_process.proofs.ControlLemmas.{controls_apart}
use Rattle.vs_process.proofs.laws.controls_are_apart.Goals as goal

pub returns : goal.returns
returns c = controls_apart
