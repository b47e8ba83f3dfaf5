use Rattle.vs_elab_hierarchy.proofs.PathsPrinted.{printed_same}
use Rattle.vs_elab_hierarchy.proofs.laws.printed_paths_differ.Goals as goal

pub returns : goal.returns
returns c = printed_same
