use Rattle.vs_elab_hierarchy.proofs.PathsPrinted.{parts_same}
use Rattle.vs_elab_hierarchy.proofs.laws.printed_parts_differ.Goals as goal

pub returns : goal.returns
returns c = parts_same
