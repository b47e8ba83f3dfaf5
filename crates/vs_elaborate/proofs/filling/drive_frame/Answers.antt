use Rattle.std.proofs.Common.{[]}
use Rattle.std.proofs.lemmas.Result.{err_from_is_err_and}
use Rattle.vs_elaborate.proofs.FillingLemmas.{connects_none, drives_none, fills_ports_not, fills_texts_not, drives_scope}
use Rattle.vs_elaborate.proofs.filling.drive_frame.Goals as goal

pub returns-in_err-drive_ports : goal.returns-in_err-drive_ports
returns-in_err-drive_ports c envs s f m o =
    let q = err_from_is_err_and c.from_residual.result c.from_residual.ensures.1 in
    rw (q.1, q.2) (fills_ports_not envs s c.args.scope.now m [] c.in_err-drive_ports.field-0.0
    (rw (c.deref.ensures.value, c.deref-2.ensures.value) at (c.in_err-drive_ports.ensures envs s f o [] [] (rw c.new-ports.ensures.items (connects_none s)))))

pub returns-in_err-drive_pieces : goal.returns-in_err-drive_pieces
returns-in_err-drive_pieces c envs s f m o =
    let q = err_from_is_err_and c.from_residual-in_err-drive_pieces.result c.from_residual-in_err-drive_pieces.ensures.1 in
    rw (q.1, q.2) (fills_texts_not envs s c.args.scope.now m [] c.in_err-drive_pieces.field-0.0
    (rw c.deref-3.ensures.value at (c.in_err-drive_pieces.ensures envs s f [] [] (rw c.new-text.ensures.items (drives_none s)))))

pub returns : goal.returns
returns c envs s f m o =
    drives_scope envs s c.args.scope.now m c.args.contents.now c.add_assigns.new.self c.drive_ports.new.assigns.items c.drive_pieces.new.assigns.items c.in_ok-add_assigns.ensures.assigns c.in_ok-add_assigns.ensures.processes
    (rw (c.deref.ensures.value, c.deref-2.ensures.value) at (c.in_ok-drive_ports.ensures envs s f o [] [] (rw c.new-ports.ensures.items (connects_none s))))
    (rw c.deref-3.ensures.value at (c.in_ok-drive_pieces.ensures envs s f [] [] (rw c.new-text.ensures.items (drives_none s))))
