use Rattle.std.proofs.Common.{arith}
use Rattle.std.proofs.lemmas.Result.{err_from_is_err_and}
use Rattle.vs_elab_hierarchy.specs.vs_scopes.specs.Reads.{read_piece}
use Rattle.vs_elab_hierarchy.specs.vs_scopes.specs.declared.scope.ScopePiece.{ScopePiece as FoundPiece}
use Rattle.vs_elab_statements.specs.Members.{behaviors_in}
use Rattle.vs_design.specs.vs_logic4.proofs.Basics.{got}
use Rattle.vs_elaborate.specs.passes.Filling.{Runs, RunsNot}
use Rattle.vs_elab_statements.specs.vs_scopes.proofs.AnswerLemmas.{kept_more, kept_all, kept_fault}
use Rattle.vs_elaborate.proofs.FillingLemmas.{runs_not_more}
use Rattle.vs_elaborate.proofs.processes.run_pieces.Goals as goal

pub returns-in_err-run_piece : goal.returns-in_err-run_piece
returns-in_err-run_piece c envs s f =
    let p = err_from_is_err_and c.from_residual.result c.from_residual.ensures.1 in
    rw (p.1, p.2) (kept_fault (λ (x : FoundPiece). behaviors_in (read_piece x)) (Runs envs s c.args.first c.args.contents.now) (Runs envs s c.args.first c.loop-piece.contents) (RunsNot envs s) c.args.pieces.now c.loop-piece.piece-index c.piece-item.result c.in_err-run_piece.field-0.0 (omega arith) c.piece-item.is (runs_not_more envs s) (c.loop-piece.invariant envs s f) (c.in_err-run_piece.ensures envs s f))

pub returns : goal.returns
returns c envs s f =
    kept_all (λ (x : FoundPiece). behaviors_in (read_piece x)) (Runs envs s c.args.first c.args.contents.now) (Runs envs s c.args.first c.loop-piece.contents) c.args.pieces.now c.loop-piece.piece-index (omega arith) (c.loop-piece.invariant envs s f)

pub loop-piece-preserved : goal.loop-piece-preserved
loop-piece-preserved c envs s f =
    kept_more (λ (x : FoundPiece). behaviors_in (read_piece x)) (Runs envs s c.args.first c.args.contents.now) (Runs envs s c.args.first c.loop-piece.contents) (Runs envs s c.args.first c.run_piece.new.contents) c.args.pieces.now c.loop-piece.piece-index c.piece-item.result (omega arith) c.piece-item.is (c.loop-piece.invariant envs s f) (c.in_ok-run_piece.ensures envs s f)

pub run_piece-requires-clause-blocks : goal.run_piece-requires-clause-blocks
run_piece-requires-clause-blocks c =
    c.requires.blocks c.loop-piece.piece-index c.piece-item.result (got c.args.pieces.now c.loop-piece.piece-index c.piece-item.result (omega arith) c.piece-item.is)
