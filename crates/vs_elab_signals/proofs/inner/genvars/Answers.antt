use Rattle.std.proofs.Common.{ap, map, arith}
use Rattle.std.specs.List.{flat_map}
use Rattle.std.proofs.lemmas.List.{drop_all}
use Rattle.vs_elab_signals.specs.vs_scopes.specs.Reads.{read_piece}
use Rattle.vs_scopes.specs.Declarations.{genvars_in}
use Rattle.vs_scopes.specs.scopes_passes.Answers.{borrowed}
use Rattle.vs_scopes.proofs.PassLemmas.{moved_by, ended}
use Rattle.vs_design.specs.vs_logic4.proofs.Basics.{front_of as drop_at}
use Rattle.vs_elab_signals.proofs.inner.genvars.Goals as goal

pub loop-piece-preserved : goal.loop-piece-preserved
loop-piece-preserved c =
    moved_by (borrowed c.loop-piece.names.items) (borrowed c.add_genvars.new.names.items) _ _ _ _ c.in_ok-add_genvars.ensures
    (ap (λ z. flat_map genvars_in (map read_piece z)) (drop_at c.args.pieces.now c.loop-piece.piece-index c.piece-item.result (omega arith) c.piece-item.is)) c.loop-piece.invariant

pub returns : goal.returns
returns c = ended _ _ _ (ap (λ z. flat_map genvars_in (map read_piece z)) (drop_all c.loop-piece.piece-index c.args.pieces.now (omega arith))) c.loop-piece.invariant
