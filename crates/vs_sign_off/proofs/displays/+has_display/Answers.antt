use Rattle.std.proofs.Common.{◌∙◌, ◌||◌, sym, ap}
use Rattle.std.specs.List.{list_any}
use Rattle.vs_sign_off.specs.Displays.{has_display, has_display_step}
use Rattle.vs_design.specs.declared.statement.Statement.TheVariants.{rolls-If}
use Rattle.vs_design.specs.declared.statement.Statement.TheOpen as layer
use Rattle.vs_design.proofs.StatementLemmas.{fold_layer}
use Rattle.vs_sign_off.proofs.DisplayLemmas.{display_Block, display_Call, display_Case, display_inner}
use Rattle.vs_design.proofs.LoopLemmas.{any_next, any_here, any_none}
use Rattle.vs_sign_off.proofs.displays.+has_display.Goals as goal

pub has_display-returns-in-Block : goal.has_display-returns-in-Block
has_display-returns-in-Block t c =
    c.has_display_in_block.ensures ∙ ap (list_any has_display) c.deref.ensures.value ∙ sym (ap has_display c.in-Block.is ∙ display_Block c.in-Block.all)

pub has_display-returns-in-Case : goal.has_display-returns-in-Case
has_display-returns-in-Case t c =
    c.has_display_in_items.ensures ∙ ap (list_any (λ i. has_display i.1)) c.deref-in-Case.ensures.value ∙ sym (ap has_display c.in-Case.is ∙ display_Case _ _ _ c.in-Case.items)

pub has_display-returns-then-has_display : goal.has_display-returns-then-has_display
has_display-returns-then-has_display t c =
    let choice = c.in-If in
    let first = ap has_display (sym c.deref-in-If.ensures) ∙ sym c.if-has_display.ensures in
    let own = fold_layer has_display_step c.args.s.now (layer.If choice.field-0 choice.field-1 choice.then choice.other)
    (rolls-If choice.field-0 choice.field-1 choice.then choice.other ∙ sym choice.is) in
    c.if-has_display.true ∙ sym (own ∙ ap (λ b. b || has_display choice.other.value) first)

pub has_display-returns-else-has_display : goal.has_display-returns-else-has_display
has_display-returns-else-has_display t c =
    let choice = c.in-If in
    let first = ap has_display (sym c.deref-in-If.ensures) ∙ sym c.if-has_display.ensures in
    let own = fold_layer has_display_step c.args.s.now (layer.If choice.field-0 choice.field-1 choice.then choice.other)
    (rolls-If choice.field-0 choice.field-1 choice.then choice.other ∙ sym choice.is) in
    c.has_display-else-has_display.ensures ∙ ap has_display c.deref-else-has_display.ensures ∙ sym (own ∙ ap (λ b. b || has_display choice.other.value) first)

pub has_display-returns-in-Delay : goal.has_display-returns-in-Delay
has_display-returns-in-Delay t c =
    c.has_display-in-Delay.ensures ∙ ap has_display c.deref-in-Delay.ensures ∙ sym (display_inner c.args.s.now c.in-Delay.body c.in-Delay.is)

pub has_display_in_block-loop-s-preserved : goal.has_display_in_block-loop-s-preserved
has_display_in_block-loop-s-preserved t c =
    any_next has_display c.args.all.now c.loop-s.s-index c.s-item.result _ c.loop-s-test.true c.s-item.is (sym c.if-has_display.ensures) c.loop-s.invariant

pub has_display_in_block-returns-then-has_display : goal.has_display_in_block-returns-then-has_display
has_display_in_block-returns-then-has_display t c =
    any_here has_display c.args.all.now c.loop-s.s-index c.s-item.result _ c.loop-s-test.true c.s-item.is (sym c.if-has_display.ensures) c.loop-s.invariant

pub has_display_in_block-returns : goal.has_display_in_block-returns
has_display_in_block-returns t c =
    any_none has_display c.args.all.now c.loop-s.s-index _ c.loop-s-test.false c.loop-s.invariant

pub has_display_in_items-loop-body-preserved : goal.has_display_in_items-loop-body-preserved
has_display_in_items-loop-body-preserved t c =
    any_next (λ i. has_display i.1) c.args.items.now c.loop-body.body-index c.loop-body-item.result _ c.loop-body-test.true c.loop-body-item.is (sym c.if-has_display.ensures) c.loop-body.invariant

pub has_display_in_items-returns-then-has_display : goal.has_display_in_items-returns-then-has_display
has_display_in_items-returns-then-has_display t c =
    any_here (λ i. has_display i.1) c.args.items.now c.loop-body.body-index c.loop-body-item.result _ c.loop-body-test.true c.loop-body-item.is (sym c.if-has_display.ensures) c.loop-body.invariant

pub has_display_in_items-returns : goal.has_display_in_items-returns
has_display_in_items-returns t c =
    any_none (λ i. has_display i.1) c.args.items.now c.loop-body.body-index _ c.loop-body-test.false c.loop-body.invariant

pub has_display-returns-in-Call : goal.has_display-returns-in-Call
has_display-returns-in-Call t c = c.is_display.ensures ∙ sym (ap has_display c.in-Call.is ∙ display_Call _ c.in-Call.call)
