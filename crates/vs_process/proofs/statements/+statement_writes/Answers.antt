use Rattle.std.proofs.Common.{◌++◌, ◌∙◌, sym, ap, map}
use Rattle.std.proofs.lemmas.Result.{on_ok_weaker}
use Rattle.vs_design.specs.Uses.{joined}
use Rattle.vs_design.specs.declared.statement.Statement.TheVariants.{rolls-Block, rolls-If}
use Rattle.vs_design.specs.declared.statement.Statement.TheOpen as layer
use Rattle.vs_design.proofs.UsesLemmas.{both_pushed, pushed_as}
use Rattle.vs_design.proofs.LoopLemmas.{each_pushed, all_pushed}
use Rattle.vs_design.proofs.StatementLemmas.{fold_layer}
use Rattle.vs_process.specs.Writes.{statement_writes, statement_writes_step}
use Rattle.vs_process.proofs.Writes.{writes_assignment, writes_inner, writes_Case}
use Rattle.vs_process.proofs.statements.+statement_writes.Goals as goal

pub push_writes-returns-in-Case : goal.push_writes-returns-in-Case
push_writes-returns-in-Case t c =
    on_ok_weaker c.push_item_writes.result
    (λ is. is ∙ ap (λ ts. c.args.out.now.items ++ ts)
    (ap (λ is. joined (map (λ i. statement_writes i.1) is)) c.deref-in-Case.ensures.value ∙ sym (ap statement_writes c.in-Case.is ∙ writes_Case _ _ _ c.in-Case.items)))
    c.push_item_writes.ensures

pub push_writes-returns-in-Assign : goal.push_writes-returns-in-Assign
push_writes-returns-in-Assign t c =
    pushed_as c.push_target_writes.result c.args.out.now.items c.push_target_writes.new.out.items c.push_target_writes.ensures
    (sym (writes_assignment c.args.s.now c.in-Assign.target c.in-Assign.is))

pub push_writes-returns-in-Block : goal.push_writes-returns-in-Block
push_writes-returns-in-Block t c =
    pushed_as c.push_block_writes.result c.args.out.now.items c.push_block_writes.new.out.items c.push_block_writes.ensures
    (ap (λ all. joined (map statement_writes all)) c.deref.ensures.value
    ∙ sym (fold_layer statement_writes_step c.args.s.now (layer.Block c.in-Block.all) (rolls-Block c.in-Block.all ∙ sym c.in-Block.is)))

pub push_writes-returns-in-Delay : goal.push_writes-returns-in-Delay
push_writes-returns-in-Delay t c =
    pushed_as c.push_writes-in-Delay.result c.args.out.now.items c.push_writes-in-Delay.new.out.items c.push_writes-in-Delay.ensures
    (ap statement_writes c.deref-in-Delay.ensures ∙ sym (writes_inner c.args.s.now c.in-Delay.body c.in-Delay.is))

pub push_writes-returns-in_ok-push_writes-in-If : goal.push_writes-returns-in_ok-push_writes-in-If
push_writes-returns-in_ok-push_writes-in-If t c =
    on_ok_weaker c.push_writes-in-If.result
    (λ is. both_pushed c.args.out.now.items (statement_writes c.in-If.then.value) (statement_writes c.in-If.other.value)
    (c.in_ok-push_writes-in-If.ensures ∙ ap (λ s. c.args.out.now.items ++ statement_writes s) c.deref-in-If.ensures)
    (is ∙ ap (λ s. c.push_writes.new.out.items ++ statement_writes s) c.deref-in-If-2.ensures)
    (fold_layer statement_writes_step c.args.s.now (layer.If c.in-If.field-0 c.in-If.field-1 c.in-If.then c.in-If.other)
    (rolls-If c.in-If.field-0 c.in-If.field-1 c.in-If.then c.in-If.other ∙ sym c.in-If.is)))
    c.push_writes-in-If.ensures

pub push_block_writes-loop-s-preserved : goal.push_block_writes-loop-s-preserved
push_block_writes-loop-s-preserved t c =
    each_pushed statement_writes c.args.all.now c.loop-s.s-index c.s-item.result c.loop-s.out.items c.push_writes.new.out.items _
    c.loop-s-test.true c.s-item.is c.in_ok-push_writes.ensures c.loop-s.invariant

pub push_block_writes-returns : goal.push_block_writes-returns
push_block_writes-returns t c = all_pushed statement_writes c.args.all.now c.loop-s.s-index c.loop-s.out.items _ c.loop-s-test.false c.loop-s.invariant

pub push_item_writes-loop-body-preserved : goal.push_item_writes-loop-body-preserved
push_item_writes-loop-body-preserved t c =
    each_pushed (λ i. statement_writes i.1) c.args.items.now c.loop-body.body-index c.loop-body-item.result c.loop-body.out.items c.push_writes.new.out.items _
    c.loop-body-test.true c.loop-body-item.is c.in_ok-push_writes.ensures c.loop-body.invariant

pub push_item_writes-returns : goal.push_item_writes-returns
push_item_writes-returns t c = all_pushed (λ i. statement_writes i.1) c.args.items.now c.loop-body.body-index c.loop-body.out.items _ c.loop-body-test.false c.loop-body.invariant
