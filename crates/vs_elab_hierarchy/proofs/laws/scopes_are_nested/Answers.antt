use Rattle.vs_elab_hierarchy.proofs.PathsWithin.{scopes_are_nested}
use Rattle.vs_elab_hierarchy.proofs.laws.scopes_are_nested.Goals as goal

pub returns : goal.returns
returns c = scopes_are_nested
