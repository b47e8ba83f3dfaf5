use Rattle.std.proofs.Common.{ap, sym, ◌∙◌, arith}
use Rattle.vs_scopes.specs.Reads.{read_piece}
use Rattle.vs_scopes.specs.vs_widths.specs.Names.{meaning_of}
use Rattle.vs_scopes.specs.Ports.{kind_in}
use Rattle.vs_scopes.specs.scopes_passes.Declared.{first_of, read_said}
use Rattle.vs_scopes.proofs.DeclaredLemmas.{kind_said_step, no_kinds}
use Rattle.vs_scopes.proofs.declared.kinds_said.Goals as goal

pub loop-piece-preserved-in_default : goal.loop-piece-preserved-in_default
loop-piece-preserved-in_default c n =
    kind_said_step read_piece c.args.pieces.now c.loop-piece.piece-index c.piece-item.result n _ _ (omega arith) c.piece-item.is (c.loop-piece.invariant n) (no_kinds c.piece-item.result n _ c.in_default.not-Plain)

pub loop-piece-preserved : goal.loop-piece-preserved
loop-piece-preserved c n =
    kind_said_step read_piece c.args.pieces.now c.loop-piece.piece-index c.piece-item.result n _ _ (omega arith) c.piece-item.is (c.loop-piece.invariant n)
    (c.in_ok-add_item_kinds.ensures n ∙ ap (λ z. first_of (read_said (meaning_of c.loop-piece.kinds n)) (kind_in (read_piece z) n)) (sym c.in-Plain.is))
