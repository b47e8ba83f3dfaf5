use Rattle.vs_process.proofs.Numbers.{one_place}
use Rattle.vs_process.proofs.laws.one_place.Goals as goal

pub returns : goal.returns
returns c = one_place
