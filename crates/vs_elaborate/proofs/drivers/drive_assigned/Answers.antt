use Rattle.std.proofs.Common.{arith}
use Rattle.std.proofs.lemmas.Result.{err_from_is_err_and}
use Rattle.vs_elab_statements.specs.Members.{net_assignment}
use Rattle.vs_elaborate.specs.passes.Filling.{Drives, DrivesNot}
use Rattle.vs_elab_statements.specs.vs_scopes.proofs.AnswerLemmas.{one_more, one_all, one_fault}
use Rattle.vs_elaborate.proofs.FillingLemmas.{drives_not_more}
use Rattle.vs_elaborate.proofs.drivers.drive_assigned.Goals as goal

pub returns-in_err-drive : goal.returns-in_err-drive
returns-in_err-drive c envs s f =
    let p = err_from_is_err_and c.from_residual.result c.from_residual.ensures.1 in
    rw (p.1, p.2) (one_fault net_assignment (Drives s c.args.assigns.now.items) (Drives s c.loop-one.assigns.items) (DrivesNot s) c.args.list.now c.loop-one.one-index c.one-item.result c.in_err-drive.field-0.0 (omega arith) c.one-item.is (drives_not_more s) (c.loop-one.invariant envs s f) (c.in_err-drive.ensures envs s (net_assignment c.one-item.result) f (rw (f.view.names, f.names) at c.assignment-sides.ensures)))

pub returns : goal.returns
returns c envs s f =
    one_all net_assignment (Drives s c.args.assigns.now.items) (Drives s c.loop-one.assigns.items) c.args.list.now c.loop-one.one-index (omega arith) (c.loop-one.invariant envs s f)

pub loop-one-preserved : goal.loop-one-preserved
loop-one-preserved c envs s f =
    one_more net_assignment (Drives s c.args.assigns.now.items) (Drives s c.loop-one.assigns.items) (Drives s c.drive.new.assigns.items) c.args.list.now c.loop-one.one-index c.one-item.result (omega arith) c.one-item.is (c.loop-one.invariant envs s f) (c.in_ok-drive.ensures envs s (net_assignment c.one-item.result) f (rw (f.view.names, f.names) at c.assignment-sides.ensures))
