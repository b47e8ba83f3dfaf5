use Rattle.std.proofs.Common.{◌∙◌, ℕ, List, not, map, ap, sym, arith}
use Rattle.std.specs.List.{list_any}
use Rattle.std.specs.Str.{bytes_eq}
use Rattle.std.proofs.lemmas.List.{drop_all}
use Rattle.vs_scopes.specs.declared.scope.ScopePiece.{ScopePiece as FoundPiece}
use Rattle.vs_scopes.specs.Reads.{read_piece}
use Rattle.vs_scopes.specs.Ports.{port_names, port_names_in, port_names_among}
use Rattle.vs_scopes.specs.scopes_passes.Parts.{read_port}
use Rattle.vs_elab_signals.specs.passes.Strays.{has_other_name}
use Rattle.vs_elab_signals.proofs.StrayLemmas.{any_in, any_behind}
use Rattle.vs_elab_signals.proofs.stray.has_stray_port.Goals as goal

pub returns-then-is_stray : goal.returns-then-is_stray
returns-then-is_stray c =
    let ns = port_names (map read_port c.args.ports.now) in
    sym (c.loop-piece.invariant ∙ any_in (λ (m : List ℕ). not (list_any (bytes_eq m) ns)) port_names_in read_piece c.args.pieces.now c.loop-piece.piece-index c.piece-item.result (omega arith) c.piece-item.is
    (sym (c.is_stray.ensures ns c.in_ok-set.ensures) ∙ c.if-is_stray.true))

pub loop-piece-preserved : goal.loop-piece-preserved
loop-piece-preserved c =
    let ns = port_names (map read_port c.args.ports.now) in
    c.loop-piece.invariant ∙ any_behind (λ (m : List ℕ). not (list_any (bytes_eq m) ns)) port_names_in read_piece c.args.pieces.now c.loop-piece.piece-index c.piece-item.result (omega arith) c.piece-item.is
    (sym (c.is_stray.ensures ns c.in_ok-set.ensures) ∙ c.if-is_stray.false)

pub returns : goal.returns
returns c =
    let ns = port_names (map read_port c.args.ports.now) in
    sym (c.loop-piece.invariant ∙ ap (λ (z : List FoundPiece). has_other_name ns (port_names_among (map read_piece z))) (drop_all c.loop-piece.piece-index c.args.pieces.now (omega arith)))
