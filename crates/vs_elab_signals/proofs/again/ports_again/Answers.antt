use Rattle.std.proofs.Common.{List, [], ◌∷◌, ◌++◌, ◌∙◌, map, ap, sym, subst, arith}
use Rattle.std.proofs.lemmas.List.{append-nil, map-append}
use Rattle.std.proofs.lemmas.List.Concat.{flat_map-append}
use Rattle.vs_scopes.specs.declared.scope.ScopePiece.{ScopePiece as FoundPiece}
use Rattle.vs_scopes.specs.Reads.{read_piece}
use Rattle.vs_scopes.specs.Ports.{is_of_items, names_where, port_names_in, port_names_among}
use Rattle.vs_scopes.specs.scopes_passes.Answers.{borrowed}
use Rattle.vs_scopes.specs.scopes_passes.Parts.{read_port}
use Rattle.vs_elab_signals.specs.passes.Counting.{Counts, Leaves}
use Rattle.vs_elab_signals.proofs.CountingLemmas.{leaves_none, leaves_more, leaves_all, leaves_end}
use Rattle.vs_elab_signals.proofs.again.ports_again.Goals as goal

pub loop-piece-init : goal.loop-piece-init
loop-piece-init c =
    let ns = names_where is_of_items (map read_port c.args.ports.now) in
    subst (λ z. Leaves ns [] [] (borrowed z) c.in_ok-counts.counts) (sym c.new-again.ensures.items)
    (leaves_none ns [] c.in_ok-counts.counts (subst (λ z. Counts z c.in_ok-counts.counts) (ap borrowed c.deref.ensures.value ∙ c.in_ok-names.ensures) c.in_ok-counts.ensures))

pub loop-piece-preserved : goal.loop-piece-preserved
loop-piece-preserved c =
    let before = c.loop-piece.invariant in
    leaves_more (λ (xs : List FoundPiece). port_names_among (map read_piece xs)) c.args.pieces.now c.loop-piece.piece-index c.piece-item.result (port_names_in (read_piece c.piece-item.result)) _ _ _ _ _ _ (omega arith) c.piece-item.is
    (λ ys. ap port_names_among (map-append read_piece ys (c.piece-item.result ∷ [])) ∙ flat_map-append port_names_in (map read_piece ys) (read_piece c.piece-item.result ∷ [])
    ∙ ap (λ z. port_names_among (map read_piece ys) ++ z) (append-nil (port_names_in (read_piece c.piece-item.result)))) before (c.in_ok-add_piece_left.ensures before.left before.counts_left)

pub returns : goal.returns
returns c =
    leaves_end (names_where is_of_items (map read_port c.args.ports.now)) (port_names_among (map read_piece c.args.pieces.now)) (borrowed c.loop-piece.again.items) c.loop-piece.counts
    (leaves_all (λ (xs : List FoundPiece). port_names_among (map read_piece xs)) c.args.pieces.now c.loop-piece.piece-index _ _ _ _ (omega arith) c.loop-piece.invariant)
