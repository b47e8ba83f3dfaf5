use Rattle.std.proofs.Common.{◌∙◌, ◌||◌, sym, ap}
use Rattle.std.specs.List.{list_any}
use Rattle.vs_design.specs.Statements.{has_control}
use Rattle.vs_design.specs.Statements.{has_control_step}
use Rattle.vs_design.specs.declared.statement.Statement.TheVariants.{rolls-If}
use Rattle.vs_design.specs.declared.statement.Statement.TheOpen as layer
use Rattle.vs_design.proofs.StatementLemmas.{fold_layer, control_Block, control_Case, control_loop}
use Rattle.vs_design.proofs.LoopLemmas.{any_next, any_here, any_none}
use Rattle.vs_design.proofs.statement_uses.+has_control.Goals as goal

pub has_control-returns-in-Block : goal.has_control-returns-in-Block
has_control-returns-in-Block t c =
    c.has_control_in_block.ensures ∙ ap (list_any has_control) c.deref.ensures.value ∙ sym (ap has_control c.in-Block.is ∙ control_Block c.in-Block.all)

pub has_control-returns-in-Case : goal.has_control-returns-in-Case
has_control-returns-in-Case t c =
    c.has_control_in_items.ensures ∙ ap (list_any (λ i. has_control i.1)) c.deref-in-Case.ensures.value ∙ sym (ap has_control c.in-Case.is ∙ control_Case _ _ _ c.in-Case.items)

pub has_control-returns-then-has_control : goal.has_control-returns-then-has_control
has_control-returns-then-has_control t c =
    let choice = c.in-If in
    let first = ap has_control (sym c.deref-in-If.ensures) ∙ sym c.if-has_control.ensures in
    let own = fold_layer has_control_step c.args.s.now (layer.If choice.field-0 choice.field-1 choice.then choice.other)
    (rolls-If choice.field-0 choice.field-1 choice.then choice.other ∙ sym choice.is) in
    c.if-has_control.true ∙ sym (own ∙ ap (λ b. b || has_control choice.other.value) first)

pub has_control-returns-else-has_control : goal.has_control-returns-else-has_control
has_control-returns-else-has_control t c =
    let choice = c.in-If in
    let first = ap has_control (sym c.deref-in-If.ensures) ∙ sym c.if-has_control.ensures in
    let own = fold_layer has_control_step c.args.s.now (layer.If choice.field-0 choice.field-1 choice.then choice.other)
    (rolls-If choice.field-0 choice.field-1 choice.then choice.other ∙ sym choice.is) in
    c.has_control-else-has_control.ensures ∙ ap has_control c.deref-else-has_control.ensures ∙ sym (own ∙ ap (λ b. b || has_control choice.other.value) first)

pub has_control-returns-in-While : goal.has_control-returns-in-While
has_control-returns-in-While t c =
    c.has_control-in-While.ensures ∙ ap has_control c.deref-in-While.ensures ∙ sym (control_loop c.args.s.now c.in-While.body c.in-While.is)

pub has_control_in_block-loop-s-preserved : goal.has_control_in_block-loop-s-preserved
has_control_in_block-loop-s-preserved t c =
    any_next has_control c.args.all.now c.loop-s.s-index c.s-item.result _ c.loop-s-test.true c.s-item.is (sym c.if-has_control.ensures) c.loop-s.invariant

pub has_control_in_block-returns-then-has_control : goal.has_control_in_block-returns-then-has_control
has_control_in_block-returns-then-has_control t c =
    any_here has_control c.args.all.now c.loop-s.s-index c.s-item.result _ c.loop-s-test.true c.s-item.is (sym c.if-has_control.ensures) c.loop-s.invariant

pub has_control_in_block-returns : goal.has_control_in_block-returns
has_control_in_block-returns t c =
    any_none has_control c.args.all.now c.loop-s.s-index _ c.loop-s-test.false c.loop-s.invariant

pub has_control_in_items-loop-body-preserved : goal.has_control_in_items-loop-body-preserved
has_control_in_items-loop-body-preserved t c =
    any_next (λ i. has_control i.1) c.args.items.now c.loop-body.body-index c.loop-body-item.result _ c.loop-body-test.true c.loop-body-item.is (sym c.if-has_control.ensures) c.loop-body.invariant

pub has_control_in_items-returns-then-has_control : goal.has_control_in_items-returns-then-has_control
has_control_in_items-returns-then-has_control t c =
    any_here (λ i. has_control i.1) c.args.items.now c.loop-body.body-index c.loop-body-item.result _ c.loop-body-test.true c.loop-body-item.is (sym c.if-has_control.ensures) c.loop-body.invariant

pub has_control_in_items-returns : goal.has_control_in_items-returns
has_control_in_items-returns t c =
    any_none (λ i. has_control i.1) c.args.items.now c.loop-body.body-index _ c.loop-body-test.false c.loop-body.invariant
