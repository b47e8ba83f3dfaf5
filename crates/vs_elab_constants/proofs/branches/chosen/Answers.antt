use Rattle.std.proofs.Common.{refl}
use Rattle.vs_widths.specs.Names.{meaning_of}
use Rattle.vs_scopes.specs.Pieces.{unboxed}
use Rattle.vs_scopes.specs.Generate.{branch_taken, other_taken, chosen}
use Rattle.vs_elab_constants.proofs.BranchesLemmas.{first_taken, other_chosen}
use Rattle.vs_elab_constants.proofs.branches.chosen.Goals as goal

pub returns-then-branch : goal.returns-then-branch
returns-then-branch c =
    let env = meaning_of c.args.names.now in
    let x = c.args.first.now in
    let o = unboxed c.args.other.now in
    first_taken env c.args.condition.now c.in_ok-holds.field-0 c.in_ok-holds.ensures (chosen env c.args.condition.now x o) (branch_taken env x) (other_taken env o) c.branch_taken.result refl c.if-branch.true c.branch_taken.ensures

pub returns-else-branch : goal.returns-else-branch
returns-else-branch c =
    let env = meaning_of c.args.names.now in
    let x = c.args.first.now in
    let o = unboxed c.args.other.now in
    other_chosen env c.args.condition.now c.in_ok-holds.field-0 c.in_ok-holds.ensures (chosen env c.args.condition.now x o) (branch_taken env x) (other_taken env o) c.other_taken.result refl c.if-branch.false c.other_taken.ensures
