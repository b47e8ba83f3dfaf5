use Rattle.std.proofs.Common.{MatchResult, map, sym, subst}
use Rattle.vs_scopes.specs.Reads.{read_piece, read_block}
use Rattle.vs_elab_constants.specs.Reads.{read_inner}
use Rattle.vs_elab_signals.specs.vs_scopes.specs.scopes_passes.Answers.{IsReported}
use Rattle.vs_elab_hierarchy.specs.passes.Entering.{before_next, Enters, EntersNot}
use Rattle.vs_elab_hierarchy.proofs.EnteringLemmas.{named_entered}
use Rattle.vs_elab_hierarchy.proofs.entering.enter.Goals as goal

pub returns-in_ok-pieces-in-Named : goal.returns-in_ok-pieces-in-Named
returns-in_ok-pieces-in-Named c = λ ms ss s l a h.
    (let at = before_next c.args.list.now c.args.plan.now in
    subst (λ z. MatchResult c.block_scope.result (Enters ms ss s c.args.place at (read_inner z)) (IsReported (EntersNot ms s (read_inner z)))) (sym c.in-Named.is)
    (named_entered ms ss s c.args.place at (read_block c.in-Named.block) c.plain_title-title.result (map read_piece c.in_ok-pieces-in-Named.pieces.items) c.block_scope.result c.in_ok-pieces-in-Named.ensures c.plain_title-title.ensures.title c.plain_title-title.ensures.text (c.block_scope.ensures ss s a h)))
