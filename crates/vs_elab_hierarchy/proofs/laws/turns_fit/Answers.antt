use Rattle.vs_elab_hierarchy.proofs.PathsFit.{turns_fit}
use Rattle.vs_elab_hierarchy.proofs.laws.turns_fit.Goals as goal

pub returns : goal.returns
returns c = turns_fit
