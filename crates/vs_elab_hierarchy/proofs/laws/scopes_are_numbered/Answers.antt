use Rattle.vs_elab_hierarchy.proofs.PathsNumbered.{scopes_are_numbered}
use Rattle.vs_elab_hierarchy.proofs.laws.scopes_are_numbered.Goals as goal

pub returns : goal.returns
returns c = scopes_are_numbered
