use Rattle.vs_slots.proofs.FiringLemmas.{firing_is_exact}
use Rattle.vs_slots.proofs.laws.firing_is_exact.Goals as goal

pub returns : goal.returns
returns c = firing_is_exact
