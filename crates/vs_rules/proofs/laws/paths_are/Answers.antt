use Rattle.vs_rules.proofs.Places.{paths_are}
use Rattle.vs_rules.proofs.laws.paths_are.Goals as goal

pub returns : goal.returns
returns c = paths_are
