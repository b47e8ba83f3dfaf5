use Rattle.std.proofs.Common.{◌++◌, ◌∙◌, refl, sym, ap, map}
use Rattle.std.proofs.lemmas.Result.{on_ok_weaker}
use Rattle.vs_design.specs.Uses.{reads, joined}
use Rattle.vs_design.specs.Statements.{all_reads, statement_reads}
use Rattle.vs_design.specs.Statements.{statement_reads_step}
use Rattle.vs_design.specs.declared.statement.Statement.TheVariants.{rolls-Call, rolls-Block, rolls-If}
use Rattle.vs_design.specs.declared.statement.Statement.TheOpen as layer
use Rattle.vs_design.proofs.UsesLemmas.{both_pushed, pushed_as}
use Rattle.vs_design.proofs.StatementLemmas.{fold_layer, reads_assignment, reads_inner, reads_loop, reads_Case}
use Rattle.vs_design.proofs.LoopLemmas.{each_pushed, all_pushed}
use Rattle.vs_design.proofs.statement_uses.+statement_reads.Goals as goal

pub push_statement_reads-returns-in_ok-push_reads-in-Case : goal.push_statement_reads-returns-in_ok-push_reads-in-Case
push_statement_reads-returns-in_ok-push_reads-in-Case t c =
    on_ok_weaker c.push_item_reads.result
    (λ is. both_pushed c.args.out.now.items (reads c.in-Case.selector) (joined (map (λ i. all_reads i.0.items ++ statement_reads i.1) c.in-Case.items.items))
    c.in_ok-push_reads-in-Case.ensures
    (is ∙ ap (λ is. c.push_reads-in-Case.new.out.items ++ joined (map (λ i. all_reads i.0.items ++ statement_reads i.1) is)) c.deref-in-Case.ensures.value)
    (ap statement_reads c.in-Case.is ∙ reads_Case _ _ c.in-Case.selector c.in-Case.items))
    c.push_item_reads.ensures

pub push_statement_reads-returns-in_ok-push_reads-in-While : goal.push_statement_reads-returns-in_ok-push_reads-in-While
push_statement_reads-returns-in_ok-push_reads-in-While t c =
    on_ok_weaker c.push_statement_reads-in-While.result
    (λ is. both_pushed c.args.out.now.items (reads c.in-While.e) (statement_reads c.in-While.body.value)
    c.in_ok-push_reads-in-While.ensures
    (is ∙ ap (λ s. c.push_reads-in-While.new.out.items ++ statement_reads s) c.deref-in-While.ensures)
    (reads_loop c.args.s.now c.in-While.e c.in-While.body c.in-While.is))
    c.push_statement_reads-in-While.ensures

pub push_statement_reads-returns-in_ok-push_statement_reads-in-If : goal.push_statement_reads-returns-in_ok-push_statement_reads-in-If
push_statement_reads-returns-in_ok-push_statement_reads-in-If t c =
    let choice = c.in-If in
    let start = c.args.out.now.items in
    let first = both_pushed start (reads choice.condition) (statement_reads choice.then.value) c.in_ok-push_reads-in-If.ensures
    (c.in_ok-push_statement_reads-in-If.ensures ∙ ap (λ s. c.push_reads.new.out.items ++ statement_reads s) c.deref-in-If.ensures) refl in
    on_ok_weaker c.push_statement_reads-in-If.result
    (λ is. both_pushed start (reads choice.condition ++ statement_reads choice.then.value) (statement_reads choice.other.value) first
    (is ∙ ap (λ s. c.push_statement_reads.new.out.items ++ statement_reads s) c.deref-in-If-2.ensures)
    (fold_layer statement_reads_step c.args.s.now (layer.If choice.field-0 choice.condition choice.then choice.other)
    (rolls-If choice.field-0 choice.condition choice.then choice.other ∙ sym choice.is)))
    c.push_statement_reads-in-If.ensures

pub push_statement_reads-returns-in-Assign : goal.push_statement_reads-returns-in-Assign
push_statement_reads-returns-in-Assign t c =
    pushed_as c.push_assignment_reads.result c.args.out.now.items c.push_assignment_reads.new.out.items c.push_assignment_reads.ensures
    (sym (reads_assignment c.args.s.now c.in-Assign.target c.in-Assign.source c.in-Assign.is))

pub push_statement_reads-returns-in-Call : goal.push_statement_reads-returns-in-Call
push_statement_reads-returns-in-Call t c =
    pushed_as c.push_call_reads.result c.args.out.now.items c.push_call_reads.new.out.items c.push_call_reads.ensures
    (sym (fold_layer statement_reads_step c.args.s.now (layer.Call c.in-Call.field-0 c.in-Call.call) (rolls-Call c.in-Call.field-0 c.in-Call.call ∙ sym c.in-Call.is)))

pub push_statement_reads-returns-in-Block : goal.push_statement_reads-returns-in-Block
push_statement_reads-returns-in-Block t c =
    pushed_as c.push_block_reads.result c.args.out.now.items c.push_block_reads.new.out.items c.push_block_reads.ensures
    (ap (λ ss. joined (map statement_reads ss)) c.deref.ensures.value
    ∙ sym (fold_layer statement_reads_step c.args.s.now (layer.Block c.in-Block.all) (rolls-Block c.in-Block.all ∙ sym c.in-Block.is)))

pub push_statement_reads-returns-in-Delay : goal.push_statement_reads-returns-in-Delay
push_statement_reads-returns-in-Delay t c =
    pushed_as c.push_statement_reads-in-Delay.result c.args.out.now.items c.push_statement_reads-in-Delay.new.out.items c.push_statement_reads-in-Delay.ensures
    (ap statement_reads c.deref-in-Delay.ensures ∙ sym (reads_inner c.args.s.now c.in-Delay.body c.in-Delay.is))

pub push_block_reads-loop-s-preserved : goal.push_block_reads-loop-s-preserved
push_block_reads-loop-s-preserved t c =
    each_pushed statement_reads c.args.all.now c.loop-s.s-index c.s-item.result c.loop-s.out.items c.push_statement_reads.new.out.items _
    c.loop-s-test.true c.s-item.is c.in_ok-push_statement_reads.ensures c.loop-s.invariant

pub push_block_reads-returns : goal.push_block_reads-returns
push_block_reads-returns t c = all_pushed statement_reads c.args.all.now c.loop-s.s-index c.loop-s.out.items _ c.loop-s-test.false c.loop-s.invariant

pub push_item_reads-loop-labels-preserved : goal.push_item_reads-loop-labels-preserved
push_item_reads-loop-labels-preserved t c =
    each_pushed (λ i. all_reads i.0.items ++ statement_reads i.1) c.args.items.now c.loop-labels.labels-index c.loop-labels-item.result c.loop-labels.out.items c.push_statement_reads.new.out.items _
    c.loop-labels-test.true c.loop-labels-item.is
    (both_pushed c.loop-labels.out.items (all_reads c.loop-labels-item.result.0.items) (statement_reads c.loop-labels-item.result.1)
    (c.in_ok-push_all_reads.ensures ∙ ap (λ es. c.loop-labels.out.items ++ all_reads es) c.deref.ensures.value) c.in_ok-push_statement_reads.ensures refl) c.loop-labels.invariant

pub push_item_reads-returns : goal.push_item_reads-returns
push_item_reads-returns t c = all_pushed (λ i. all_reads i.0.items ++ statement_reads i.1) c.args.items.now c.loop-labels.labels-index c.loop-labels.out.items _ c.loop-labels-test.false c.loop-labels.invariant
