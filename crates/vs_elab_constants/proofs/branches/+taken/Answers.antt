use Rattle.std.proofs.Common.{refl}
use Rattle.vs_widths.specs.Names.{meaning_of}
use Rattle.vs_elab_constants.proofs.BranchesLemmas.{first_taken, other_chosen, if_taken}
use Rattle.vs_elab_constants.proofs.branches.+taken.Goals as goal

pub branch_taken-returns-then-branch : goal.branch_taken-returns-then-branch
branch_taken-returns-then-branch t c =
    let env = meaning_of c.args.names.now in
    let i = c.in-If in
    first_taken env i.condition c.in_ok-holds.field-0 c.in_ok-holds.ensures _ _ _ c.branch_taken.result (if_taken env c.args.item.now c.deref.result.now i.condition i.first i.other i.is c.deref.ensures) c.if-branch.true c.branch_taken.ensures

pub branch_taken-returns-else-branch : goal.branch_taken-returns-else-branch
branch_taken-returns-else-branch t c =
    let env = meaning_of c.args.names.now in
    let i = c.in-If in
    other_chosen env i.condition c.in_ok-holds.field-0 c.in_ok-holds.ensures _ _ _ c.other_taken.result (if_taken env c.args.item.now i.first.value i.condition i.first i.other i.is refl) c.if-branch.false c.other_taken.ensures
