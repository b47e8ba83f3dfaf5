use Rattle.std.proofs.Common.{◌++◌, ◌∙◌, sym, ap, map}
use Rattle.std.proofs.lemmas.Result.{on_ok_weaker}
use Rattle.vs_design.specs.Uses.{joined, reads}
use Rattle.vs_design.specs.declared.statement.Statement.TheVariants.{rolls-Block}
use Rattle.vs_design.specs.declared.statement.Statement.TheOpen as layer
use Rattle.vs_design.proofs.UsesLemmas.{both_pushed, pushed_as}
use Rattle.vs_design.proofs.LoopLemmas.{each_pushed, all_pushed}
use Rattle.vs_design.proofs.StatementLemmas.{fold_layer}
use Rattle.vs_rules.specs.vs_process.specs.Threads.{item_reads}
use Rattle.vs_rules.specs.Paths.{text_reads, text_reads_step}
use Rattle.vs_maps.proofs.ReadingLemmas.{text_loop, text_Case}
use Rattle.vs_maps.proofs.readings.+text_reads.Goals as goal

pub push_text_reads-returns-in-Block : goal.push_text_reads-returns-in-Block
push_text_reads-returns-in-Block t c =
    pushed_as c.push_block_reads.result c.args.out.now.items c.push_block_reads.new.out.items c.push_block_reads.ensures
    (ap (λ all. joined (map text_reads all)) c.deref.ensures.value
    ∙ sym (fold_layer text_reads_step c.args.s.now (layer.Block c.in-Block.all) (rolls-Block c.in-Block.all ∙ sym c.in-Block.is)))

pub push_block_reads-loop-s-preserved : goal.push_block_reads-loop-s-preserved
push_block_reads-loop-s-preserved t c =
    each_pushed text_reads c.args.all.now c.loop-s.s-index c.s-item.result c.loop-s.out.items c.push_text_reads.new.out.items _
    c.loop-s-test.true c.s-item.is c.in_ok-push_text_reads.ensures c.loop-s.invariant

pub push_block_reads-returns : goal.push_block_reads-returns
push_block_reads-returns t c = all_pushed text_reads c.args.all.now c.loop-s.s-index c.loop-s.out.items _ c.loop-s-test.false c.loop-s.invariant

pub push_item_reads-loop-body-preserved : goal.push_item_reads-loop-body-preserved
push_item_reads-loop-body-preserved t c =
    each_pushed (λ i. text_reads i.1) c.args.items.now c.loop-body.body-index c.loop-body-item.result c.loop-body.out.items c.push_text_reads.new.out.items _
    c.loop-body-test.true c.loop-body-item.is c.in_ok-push_text_reads.ensures c.loop-body.invariant

pub push_item_reads-returns : goal.push_item_reads-returns
push_item_reads-returns t c = all_pushed (λ i. text_reads i.1) c.args.items.now c.loop-body.body-index c.loop-body.out.items _ c.loop-body-test.false c.loop-body.invariant

pub push_text_reads-returns-in_ok-push_case_reads-in-Case : goal.push_text_reads-returns-in_ok-push_case_reads-in-Case
push_text_reads-returns-in_ok-push_case_reads-in-Case t c =
    on_ok_weaker c.push_item_reads.result
    (λ is. both_pushed c.args.out.now.items (reads c.in-Case.selector ++ joined (map item_reads c.in-Case.items.items)) (joined (map (λ i. text_reads i.1) c.in-Case.items.items))
    (c.in_ok-push_case_reads-in-Case.ensures ∙ ap (λ is. c.args.out.now.items ++ (reads c.in-Case.selector ++ joined (map item_reads is))) c.deref-in-Case.ensures.value)
    (is ∙ ap (λ is. c.push_case_reads.new.out.items ++ joined (map (λ i. text_reads i.1) is)) c.deref-in-Case-2.ensures.value)
    (text_Case c.args.s.now _ _ c.in-Case.selector c.in-Case.items c.in-Case.is))
    c.push_item_reads.ensures

pub push_text_reads-returns-in_ok-push_expression_reads-in-While : goal.push_text_reads-returns-in_ok-push_expression_reads-in-While
push_text_reads-returns-in_ok-push_expression_reads-in-While t c =
    on_ok_weaker c.push_text_reads-in-While.result
    (λ is. both_pushed c.args.out.now.items (reads c.in-While.e) (text_reads c.in-While.body.value)
    c.in_ok-push_expression_reads-in-While.ensures
    (is ∙ ap (λ s. c.push_expression_reads-in-While.new.out.items ++ text_reads s) c.deref-in-While.ensures)
    (text_loop c.args.s.now c.in-While.e c.in-While.body c.in-While.is))
    c.push_text_reads-in-While.ensures
