use Rattle.std.proofs.Common.{arith}
use Rattle.std.proofs.lemmas.Result.{err_from_is_err_and}
use Rattle.vs_elab_signals.specs.vs_scopes.specs.declared.scope.ScopePiece.{ScopePiece as FoundPiece}
use Rattle.vs_elab_signals.specs.vs_scopes.specs.Reads.{read_piece}
use Rattle.vs_scopes.specs.Declarations.{DeclaredName, declared_in}
use Rattle.std.proofs.Common.{List}
use Rattle.vs_scopes.proofs.AnswerLemmas.{kept_none, kept_more, kept_all, kept_fault}
use Rattle.vs_elab_signals.specs.signal_passes.Declaring.{Declares, DeclaresNot}
use Rattle.vs_elab_signals.proofs.DeclareLemmas.{declares_not_more, flat_twice}
use Rattle.vs_elab_signals.proofs.declarations.declare_pieces.Goals as goal

pub loop-piece-init : goal.loop-piece-init
loop-piece-init c s i = kept_none (Declares s c.args.to.now c.args.plan.now)

pub returns-in_err-declare_piece : goal.returns-in_err-declare_piece
returns-in_err-declare_piece c s i =
    let p = err_from_is_err_and c.from_residual.result c.from_residual.ensures.1 in
    let f : FoundPiece → List DeclaredName = λ x. declared_in s.known (read_piece x) in
    rw (p.1, p.2) (rw (flat_twice (declared_in s.known) read_piece c.args.pieces.now) (kept_fault f (Declares s c.args.to.now c.args.plan.now) (Declares s c.loop-piece.to c.loop-piece.plan) (DeclaresNot s) c.args.pieces.now c.loop-piece.piece-index c.piece-item.result c.in_err-declare_piece.field-0.0 (omega arith) c.piece-item.is (declares_not_more s) (c.loop-piece.invariant s i) (c.in_err-declare_piece.ensures s i)))

pub loop-piece-preserved : goal.loop-piece-preserved
loop-piece-preserved c s i =
    let f : FoundPiece → List DeclaredName = λ x. declared_in s.known (read_piece x) in
    kept_more f (Declares s c.args.to.now c.args.plan.now) (Declares s c.loop-piece.to c.loop-piece.plan) (Declares s c.declare_piece.new.to c.declare_piece.new.plan) c.args.pieces.now c.loop-piece.piece-index c.piece-item.result (omega arith) c.piece-item.is (c.loop-piece.invariant s i) (c.in_ok-declare_piece.ensures s i)

pub returns : goal.returns
returns c s i =
    let f : FoundPiece → List DeclaredName = λ x. declared_in s.known (read_piece x) in
    rw (flat_twice (declared_in s.known) read_piece c.args.pieces.now) (kept_all f (Declares s c.args.to.now c.args.plan.now) (Declares s c.loop-piece.to c.loop-piece.plan) c.args.pieces.now c.loop-piece.piece-index (omega arith) (c.loop-piece.invariant s i))
