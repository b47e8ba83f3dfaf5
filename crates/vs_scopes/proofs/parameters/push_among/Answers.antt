use Rattle.std.proofs.Common.{◌≡◌, List, ◌∷◌, ◌++◌, ◌+◌, refl, ap, sym, ◌∙◌, map, drop, arith, Bor}
use Rattle.std.proofs.lemmas.List.{drop_all}
use Rattle.vs_syntax.specs.declared.tree.Item.{Item}
use Rattle.vs_scopes.specs.Pieces.{Piece}
use Rattle.vs_scopes.specs.Reads.{read_piece}
use Rattle.vs_scopes.specs.declared.scope.ScopePiece.{ScopePiece as FoundPiece}
use Rattle.vs_scopes.specs.declared.scope.ScopePiece.TheVariants as pieces
use Rattle.vs_scopes.specs.Overrides.{parameters_among}
use Rattle.vs_scopes.specs.passes.Ends.{read_parameter}
use Rattle.vs_scopes.proofs.PassLemmas.{moved_by, ended}
use Rattle.vs_syntax.specs.vs_logic4.proofs.Basics.{front_of as drop_at}
use Rattle.vs_scopes.proofs.parameters.push_among.Goals as goal

-- a piece that is no item declares no parameters
skipped : (x : FoundPiece) (rest : List Piece) → ((i : Bor Item) → x ≡ pieces.Plain i → ⊥) → parameters_among (read_piece x ∷ rest) ≡ parameters_among rest
skipped (pieces.Plain i) rest h = absurd (h i refl)
skipped _ rest h = refl

pub loop-piece-preserved-in_default : goal.loop-piece-preserved-in_default
loop-piece-preserved-in_default c =
    let ps = c.args.pieces.now in
    let i = c.loop-piece.piece-index in
    let p = c.piece-item.result in
    ap (λ z. map read_parameter c.loop-piece.list.items ++ z)
    (sym (ap (λ z. parameters_among (map read_piece z)) (drop_at ps i p (omega arith) c.piece-item.is) ∙ skipped p (map read_piece (drop (i + 1) ps)) c.in_default.not-Plain)) ∙ c.loop-piece.invariant

pub loop-piece-preserved : goal.loop-piece-preserved
loop-piece-preserved c =
    let ps = c.args.pieces.now in
    let i = c.loop-piece.piece-index in
    let p = c.piece-item.result in
    moved_by (map read_parameter c.loop-piece.list.items) (map read_parameter c.push_parameters.new.list.items) _ _ _ _ c.in_ok-push_parameters.ensures
    (ap (λ z. parameters_among (map read_piece z)) (drop_at ps i p (omega arith) c.piece-item.is) ∙ ap (λ z. parameters_among (read_piece z ∷ map read_piece (drop (i + 1) ps))) c.in-Plain.is) c.loop-piece.invariant

pub returns : goal.returns
returns c = ended _ _ _ (ap (λ z. parameters_among (map read_piece z)) (drop_all c.loop-piece.piece-index c.args.pieces.now (omega arith))) c.loop-piece.invariant
