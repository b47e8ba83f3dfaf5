use Rattle.vs_process.proofs.SpotLemmas.{spots_hold}
use Rattle.vs_process.proofs.spots.spots_hold.Goals as goal

pub returns : goal.returns
returns c = spots_hold
