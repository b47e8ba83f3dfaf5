use Rattle.std.proofs.Common.{ap, sym, ◌∙◌, arith}
use Rattle.vs_scopes.specs.Reads.{read_piece}
use Rattle.vs_scopes.specs.vs_widths.specs.Names.{meaning_of}
use Rattle.vs_scopes.specs.Ports.{said_in}
use Rattle.vs_scopes.specs.scopes_passes.Parts.{read_end}
use Rattle.vs_scopes.specs.scopes_passes.Declared.{first_of}
use Rattle.vs_scopes.proofs.DeclaredLemmas.{port_said_step, no_ports}
use Rattle.vs_scopes.proofs.declared.port_forms.Goals as goal

pub loop-piece-preserved-in_default : goal.loop-piece-preserved-in_default
loop-piece-preserved-in_default c n =
    port_said_step read_piece c.args.pieces.now c.loop-piece.piece-index c.piece-item.result n _ _ (omega arith) c.piece-item.is (c.loop-piece.invariant n) (no_ports c.piece-item.result n _ c.in_default.not-Plain)

pub loop-piece-preserved : goal.loop-piece-preserved
loop-piece-preserved c n =
    port_said_step read_piece c.args.pieces.now c.loop-piece.piece-index c.piece-item.result n _ _ (omega arith) c.piece-item.is (c.loop-piece.invariant n)
    (c.in_ok-add_item_forms.ensures n ∙ ap (λ z. first_of (read_end (meaning_of c.loop-piece.forms n)) (said_in (read_piece z) n)) (sym c.in-Plain.is))
