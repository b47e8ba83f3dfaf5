use Rattle.vs_slots.proofs.ListLemmas.{list_for}
use Rattle.vs_slots.proofs.controls.ControlLists.new.Goals as goal

pub returns : goal.returns
returns c = list_for c.args.lists.now c.of-controls.ensures
