use Rattle.std.proofs.Common.{ℕ, List, map, arith}
use Rattle.std.specs.List.{flat_map}
use Rattle.vs_scopes.specs.vs_widths.specs.declared.bindings.Binding.TheVariants.{Other}
use Rattle.vs_scopes.specs.declared.scope.ScopePiece.{ScopePiece as FoundPiece}
use Rattle.vs_scopes.specs.Reads.{read_piece}
use Rattle.vs_scopes.specs.Declarations.{inner_names_in, bound_to}
use Rattle.vs_scopes.proofs.DeclaredLemmas.{adds_step}
use Rattle.vs_elab_constants.proofs.EarlyLemmas.{maps_read}
use Rattle.vs_elab_constants.proofs.early.add_all_inner.Goals as goal

pub loop-piece-preserved : goal.loop-piece-preserved
loop-piece-preserved c =
    adds_step c.args.names.now c.loop-piece.names c.add_inner.new.names c.args.pieces.now c.loop-piece.piece-index c.piece-item.result (λ (xs : List FoundPiece). bound_to Other (flat_map inner_names_in (map read_piece xs))) (bound_to Other (inner_names_in (read_piece c.piece-item.result))) (omega arith) c.piece-item.is
    (maps_read read_piece inner_names_in (λ (n : List ℕ). (n, Other)) c.piece-item.result) c.loop-piece.invariant c.in_ok-add_inner.ensures
