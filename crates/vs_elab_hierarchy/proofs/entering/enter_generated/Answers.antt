use Rattle.std.proofs.Common.{[], map, ap, sym, ◌∙◌}
use Rattle.vs_elab_constants.specs.vs_widths.specs.Names.{by_bytes}
use Rattle.vs_scopes.specs.Reads.{read_piece}
use Rattle.vs_elab_constants.specs.Reads.{read_constant}
use Rattle.vs_elab_hierarchy.specs.passes.Entering.{before_next}
use Rattle.vs_elab_hierarchy.proofs.EnteringLemmas.{generated_entered}
use Rattle.vs_elab_hierarchy.proofs.entering.enter_generated.Goals as goal

pub returns-in-Some : goal.returns-in-Some
returns-in-Some c = λ ms ss s a h.
    generated_entered ms ss s c.args.place (before_next c.args.list.now c.args.plan.now) c.args.piece c.args.turn.now c.args.items.now c.args.title (by_bytes c.from_ref.result.now) (map read_piece c.in_ok-pieces.pieces.items) c.block_scope.result
    (ap by_bytes c.from_ref.ensures.value ∙ ap read_constant (sym c.in-Some.is)) c.in_ok-pieces.ensures (c.block_scope.ensures ss s a h)

pub returns-in-None : goal.returns-in-None
returns-in-None c = λ ms ss s a h.
    generated_entered ms ss s c.args.place (before_next c.args.list.now c.args.plan.now) c.args.piece c.args.turn.now c.args.items.now c.args.title [] (map read_piece c.in_ok-pieces.pieces.items) c.block_scope-in-None.result
    (ap read_constant (sym c.in-None.is)) c.in_ok-pieces.ensures (c.block_scope-in-None.ensures ss s a h)
