use Rattle.std.proofs.Common.{[], arith}
use Rattle.std.proofs.lemmas.Result.{err_from_is_err_and}
use Rattle.vs_elaborate.proofs.FillingLemmas.{runs_none, fills_settings_not, fills_all}
use Rattle.vs_elaborate.proofs.filling.fill_frame.Goals as goal

pub returns-in_err-drive_frame : goal.returns-in_err-drive_frame
returns-in_err-drive_frame c envs s f m o =
    let q = err_from_is_err_and c.from_residual.result c.from_residual.ensures.1 in
    rw (q.1, q.2) (c.in_err-drive_frame.ensures envs s f m o)

pub returns-in_err-run_ports : goal.returns-in_err-run_ports
returns-in_err-run_ports c envs s f m o =
    let q = err_from_is_err_and c.from_residual-in_err-run_ports.result c.from_residual-in_err-run_ports.ensures.1 in
    let p2 = c.drive_frame.new.contents in
    rw (q.1, q.2) (fills_settings_not envs s c.args.scope.now m p2 c.in_err-run_ports.field-0.0
    (rw c.deref.ensures.value at (c.in_err-run_ports.ensures envs s f p2 [] (runs_none envs s c.len-first.result p2 (omega (arith, c.len-first.ensures, p2.processes.ok.0))))))

pub returns : goal.returns
returns c envs s f m o =
    let p0 = c.args.contents.now in
    let p2 = c.drive_frame.new.contents in
    let p4 = c.run_pieces.new.contents in
    let runs = rw c.deref.ensures.value at (c.in_ok-run_ports.ensures envs s f p2 [] (runs_none envs s c.len-first.result p2 (omega (arith, c.len-first.ensures, p2.processes.ok.0)))) in
    fills_all envs s c.args.scope.now m c.len-first.result p0 p2 p4 c.run_pieces.result
    (c.in_ok-drive_frame.ensures envs s f m o)
    (rw c.deref-2.ensures.value at (c.run_pieces.ensures envs s f p2 _ runs))

pub run_pieces-requires-clause-blocks : goal.run_pieces-requires-clause-blocks
run_pieces-requires-clause-blocks c = rw c.deref-2.ensures.value c.requires.blocks
