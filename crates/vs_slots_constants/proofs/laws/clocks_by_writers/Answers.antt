use Rattle.vs_slots_constants.proofs.OtherLemmas.{clocks_by_writers}
use Rattle.vs_slots_constants.proofs.laws.clocks_by_writers.Goals as goal

pub returns : goal.returns
returns c = clocks_by_writers
