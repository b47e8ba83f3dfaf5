use Rattle.std.proofs.Common.{◌++◌, ◌∙◌, sym, ap, map}
use Rattle.std.proofs.lemmas.Result.{on_ok_weaker}
use Rattle.vs_design.specs.Uses.{joined}
use Rattle.vs_design.specs.Statements.{event_terms}
use Rattle.vs_design.specs.Statements.{event_terms_step}
use Rattle.vs_design.specs.declared.statement.Statement.TheVariants.{rolls-Block, rolls-Event, rolls-If}
use Rattle.vs_design.specs.declared.statement.Statement.TheOpen as layer
use Rattle.vs_design.proofs.UsesLemmas.{both_pushed, pushed_as}
use Rattle.vs_design.proofs.StatementLemmas.{fold_layer, terms_inner, terms_Case}
use Rattle.vs_design.proofs.LoopLemmas.{each_pushed, all_pushed}
use Rattle.vs_design.proofs.statement_uses.+event_terms.Goals as goal

pub push_terms-returns-in-Case : goal.push_terms-returns-in-Case
push_terms-returns-in-Case t c =
    on_ok_weaker c.push_item_terms.result
    (λ is. is ∙ ap (λ ts. c.args.out.now.items ++ ts)
    (ap (λ is. joined (map (λ i. event_terms i.1) is)) c.deref-in-Case.ensures.value ∙ sym (ap event_terms c.in-Case.is ∙ terms_Case _ _ _ c.in-Case.items)))
    c.push_item_terms.ensures

pub push_terms-returns-in-Block : goal.push_terms-returns-in-Block
push_terms-returns-in-Block t c =
    pushed_as c.push_block_terms.result c.args.out.now.items c.push_block_terms.new.out.items c.push_block_terms.ensures
    (ap (λ ss. joined (map event_terms ss)) c.deref.ensures.value ∙ sym (fold_layer event_terms_step c.args.s.now (layer.Block c.in-Block.all) (rolls-Block c.in-Block.all ∙ sym c.in-Block.is)))

pub push_terms-returns-in-Delay : goal.push_terms-returns-in-Delay
push_terms-returns-in-Delay t c =
    pushed_as c.push_terms-in-Delay.result c.args.out.now.items c.push_terms-in-Delay.new.out.items c.push_terms-in-Delay.ensures
    (ap event_terms c.deref-in-Delay.ensures ∙ sym (terms_inner c.args.s.now c.in-Delay.body c.in-Delay.is))

pub push_terms-returns-in_ok-extend_from_slice-in-Event : goal.push_terms-returns-in_ok-extend_from_slice-in-Event
push_terms-returns-in_ok-extend_from_slice-in-Event t c =
    on_ok_weaker c.push_terms.result
    (λ is. both_pushed c.args.out.now.items c.in-Event.terms.items (event_terms c.in-Event.body.value)
    (c.in_ok-extend_from_slice-in-Event.ensures.items ∙ ap (λ ts. c.args.out.now.items ++ ts) c.deref-in-Event.ensures.value)
    (is ∙ ap (λ s. c.extend_from_slice.new.self.items ++ event_terms s) c.deref-in-Event-2.ensures)
    (fold_layer event_terms_step c.args.s.now (layer.Event c.in-Event.field-0 c.in-Event.terms c.in-Event.body) (rolls-Event c.in-Event.field-0 c.in-Event.terms c.in-Event.body ∙ sym c.in-Event.is)))
    c.push_terms.ensures

pub push_terms-returns-in_ok-push_terms-in-If : goal.push_terms-returns-in_ok-push_terms-in-If
push_terms-returns-in_ok-push_terms-in-If t c =
    on_ok_weaker c.push_terms-in-If-2.result
    (λ is. both_pushed c.args.out.now.items (event_terms c.in-If.then.value) (event_terms c.in-If.other.value)
    (c.in_ok-push_terms-in-If.ensures ∙ ap (λ s. c.args.out.now.items ++ event_terms s) c.deref-in-If.ensures)
    (is ∙ ap (λ s. c.push_terms-in-If.new.out.items ++ event_terms s) c.deref-in-If-2.ensures)
    (fold_layer event_terms_step c.args.s.now (layer.If c.in-If.field-0 c.in-If.field-1 c.in-If.then c.in-If.other)
    (rolls-If c.in-If.field-0 c.in-If.field-1 c.in-If.then c.in-If.other ∙ sym c.in-If.is)))
    c.push_terms-in-If-2.ensures

pub push_block_terms-loop-s-preserved : goal.push_block_terms-loop-s-preserved
push_block_terms-loop-s-preserved t c =
    each_pushed event_terms c.args.all.now c.loop-s.s-index c.s-item.result c.loop-s.out.items c.push_terms.new.out.items _
    c.loop-s-test.true c.s-item.is c.in_ok-push_terms.ensures c.loop-s.invariant

pub push_block_terms-returns : goal.push_block_terms-returns
push_block_terms-returns t c = all_pushed event_terms c.args.all.now c.loop-s.s-index c.loop-s.out.items _ c.loop-s-test.false c.loop-s.invariant

pub push_item_terms-loop-body-preserved : goal.push_item_terms-loop-body-preserved
push_item_terms-loop-body-preserved t c =
    each_pushed (λ i. event_terms i.1) c.args.items.now c.loop-body.body-index c.loop-body-item.result c.loop-body.out.items c.push_terms.new.out.items _
    c.loop-body-test.true c.loop-body-item.is c.in_ok-push_terms.ensures c.loop-body.invariant

pub push_item_terms-returns : goal.push_item_terms-returns
push_item_terms-returns t c = all_pushed (λ i. event_terms i.1) c.args.items.now c.loop-body.body-index c.loop-body.out.items _ c.loop-body-test.false c.loop-body.invariant
