use Rattle.vs_slots_constants.proofs.ConstantLemmas.{gives_by_places}
use Rattle.vs_slots_constants.proofs.laws.gives_by_places.Goals as goal

pub returns : goal.returns
returns c = gives_by_places
