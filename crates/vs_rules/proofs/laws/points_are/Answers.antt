use Rattle.vs_rules.proofs.Places.{points_are}
use Rattle.vs_rules.proofs.laws.points_are.Goals as goal

pub returns : goal.returns
returns c = points_are
