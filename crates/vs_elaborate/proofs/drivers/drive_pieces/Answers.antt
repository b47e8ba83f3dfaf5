use Rattle.std.proofs.Common.{arith}
use Rattle.std.proofs.lemmas.Result.{err_from_is_err_and}
use Rattle.vs_elab_hierarchy.specs.vs_scopes.specs.Reads.{read_piece}
use Rattle.vs_elab_hierarchy.specs.vs_scopes.specs.declared.scope.ScopePiece.{ScopePiece as FoundPiece}
use Rattle.vs_elab_statements.specs.Members.{drivers_in}
use Rattle.vs_elaborate.specs.passes.Filling.{Drives, DrivesNot}
use Rattle.vs_elab_statements.specs.vs_scopes.proofs.AnswerLemmas.{kept_more, kept_all, kept_fault}
use Rattle.vs_elaborate.proofs.FillingLemmas.{drives_not_more}
use Rattle.vs_elaborate.proofs.drivers.drive_pieces.Goals as goal

pub returns-in_err-drive_piece : goal.returns-in_err-drive_piece
returns-in_err-drive_piece c envs s f =
    let p = err_from_is_err_and c.from_residual.result c.from_residual.ensures.1 in
    rw (p.1, p.2) (kept_fault (λ (x : FoundPiece). drivers_in (read_piece x)) (Drives s c.args.assigns.now.items) (Drives s c.loop-piece.assigns.items) (DrivesNot s) c.args.pieces.now c.loop-piece.piece-index c.piece-item.result c.in_err-drive_piece.field-0.0 (omega arith) c.piece-item.is (drives_not_more s) (c.loop-piece.invariant envs s f) (c.in_err-drive_piece.ensures envs s f))

pub returns : goal.returns
returns c envs s f =
    kept_all (λ (x : FoundPiece). drivers_in (read_piece x)) (Drives s c.args.assigns.now.items) (Drives s c.loop-piece.assigns.items) c.args.pieces.now c.loop-piece.piece-index (omega arith) (c.loop-piece.invariant envs s f)

pub loop-piece-preserved : goal.loop-piece-preserved
loop-piece-preserved c envs s f =
    kept_more (λ (x : FoundPiece). drivers_in (read_piece x)) (Drives s c.args.assigns.now.items) (Drives s c.loop-piece.assigns.items) (Drives s c.drive_piece.new.assigns.items) c.args.pieces.now c.loop-piece.piece-index c.piece-item.result (omega arith) c.piece-item.is (c.loop-piece.invariant envs s f) (c.in_ok-drive_piece.ensures envs s f)
