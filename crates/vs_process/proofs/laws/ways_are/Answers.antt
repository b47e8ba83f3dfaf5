use Rattle.vs_process.proofs.Ways.{has_ways}
use Rattle.vs_process.proofs.laws.ways_are.Goals as goal

pub returns : goal.returns
returns c = has_ways
