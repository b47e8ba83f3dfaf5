use Rattle.vs_elab_hierarchy.proofs.TurnLemmas.{turns_differ}
use Rattle.vs_elab_hierarchy.proofs.laws.turns_differ.Goals as goal

pub returns : goal.returns
returns c = turns_differ
