use Rattle.std.proofs.Common.{List, None, map, arith}
use Rattle.std.specs.List.{flat_map}
use Rattle.vs_scopes.specs.declared.scope.ScopePiece.{ScopePiece as FoundPiece}
use Rattle.vs_scopes.specs.Reads.{read_piece}
use Rattle.vs_scopes.specs.Declarations.{DeclaredName, declared_in, signal_names}
use Rattle.vs_elab_constants.specs.passes.Early.{bound_by}
use Rattle.vs_scopes.proofs.DeclaredLemmas.{adds_step}
use Rattle.vs_elab_constants.proofs.EarlyLemmas.{maps_read}
use Rattle.vs_elab_constants.proofs.early.add_all_signals.Goals as goal

pub loop-piece-preserved : goal.loop-piece-preserved
loop-piece-preserved c =
    adds_step c.args.names.now c.loop-piece.names c.add_signals.new.names c.args.pieces.now c.loop-piece.piece-index c.piece-item.result (λ (xs : List FoundPiece). signal_names (bound_by c.args.signals) (flat_map (declared_in (λ n. None)) (map read_piece xs))) (signal_names (bound_by c.args.signals) ((declared_in (λ n. None)) (read_piece c.piece-item.result))) (omega arith) c.piece-item.is
    (maps_read read_piece (declared_in (λ n. None)) (λ (d : DeclaredName). (d.name, bound_by c.args.signals d.kind)) c.piece-item.result) c.loop-piece.invariant c.in_ok-add_signals.ensures
