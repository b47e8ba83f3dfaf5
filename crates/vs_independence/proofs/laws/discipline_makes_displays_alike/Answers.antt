use Rattle.vs_independence.proofs.Shown.{displays_alike}
use Rattle.vs_independence.proofs.laws.discipline_makes_displays_alike.Goals as goal

pub returns : goal.returns
returns c = displays_alike
