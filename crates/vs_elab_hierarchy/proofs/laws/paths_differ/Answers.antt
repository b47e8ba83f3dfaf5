use Rattle.vs_elab_hierarchy.proofs.PathsDiffer.{paths_differ}
use Rattle.vs_elab_hierarchy.proofs.laws.paths_differ.Goals as goal

pub returns : goal.returns
returns c = paths_differ
