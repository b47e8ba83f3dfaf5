use Rattle.std.proofs.Common.{◌∙◌, arith}
use Rattle.vs_slots.specs.Controls.{list_by}
use Rattle.vs_rules_of_processes.proofs.Here.{closed_is}
use Rattle.vs_rules_of_processes.proofs.residues.keeps_residues.Goals as goal

pub returns : goal.returns
returns c =
    let f = c.args.slots.now in
    closed_is f.design f.claims c.args.i c.args.tables.now c.args.body.now c.args.lists.now c.deref.result.now (list_by c.new-lists.result) c.places.result
    (c.deref.ensures.value ∙ c.in_ok-controls.ensures) (grind (arith, c.if-lists-len.false, c.len.ensures, c.deref.ensures.len)) c.new-lists.ensures c.places.ensures c.in_ok-all.all c.in_ok-all.ensures
