use Rattle.std.proofs.Common.{◌++◌, ◌∙◌, sym, ap, map}
use Rattle.std.proofs.lemmas.Result.{on_ok_weaker}
use Rattle.vs_design.specs.Uses.{joined}
use Rattle.vs_design.specs.declared.statement.Statement.TheVariants.{rolls-Block}
use Rattle.vs_design.specs.declared.statement.Statement.TheOpen as layer
use Rattle.vs_design.proofs.UsesLemmas.{pushed_as}
use Rattle.vs_design.proofs.LoopLemmas.{each_pushed, all_pushed}
use Rattle.vs_design.proofs.StatementLemmas.{fold_layer}
use Rattle.vs_rules.specs.Controls.{controls_in, controls_step}
use Rattle.vs_maps.proofs.ControlLemmas.{controls_Case}
use Rattle.vs_maps.proofs.delays.+controls.Goals as goal

pub push_controls-returns-in-Case : goal.push_controls-returns-in-Case
push_controls-returns-in-Case t c =
    on_ok_weaker c.push_item_controls.result
    (λ is. is ∙ ap (λ ts. c.args.out.now.items ++ ts)
    (ap (λ is. joined (map (λ i. controls_in i.1) is)) c.deref-in-Case.ensures.value ∙ sym (ap controls_in c.in-Case.is ∙ controls_Case _ _ _ c.in-Case.items)))
    c.push_item_controls.ensures

pub push_controls-returns-in-Block : goal.push_controls-returns-in-Block
push_controls-returns-in-Block t c =
    pushed_as c.push_block_controls.result c.args.out.now.items c.push_block_controls.new.out.items c.push_block_controls.ensures
    (ap (λ all. joined (map controls_in all)) c.deref.ensures.value
    ∙ sym (fold_layer controls_step c.args.s.now (layer.Block c.in-Block.all) (rolls-Block c.in-Block.all ∙ sym c.in-Block.is)))

pub push_block_controls-loop-s-preserved : goal.push_block_controls-loop-s-preserved
push_block_controls-loop-s-preserved t c =
    each_pushed controls_in c.args.all.now c.loop-s.s-index c.s-item.result c.loop-s.out.items c.push_controls.new.out.items _
    c.loop-s-test.true c.s-item.is c.in_ok-push_controls.ensures c.loop-s.invariant

pub push_block_controls-returns : goal.push_block_controls-returns
push_block_controls-returns t c = all_pushed controls_in c.args.all.now c.loop-s.s-index c.loop-s.out.items _ c.loop-s-test.false c.loop-s.invariant

pub push_item_controls-loop-body-preserved : goal.push_item_controls-loop-body-preserved
push_item_controls-loop-body-preserved t c =
    each_pushed (λ i. controls_in i.1) c.args.items.now c.loop-body.body-index c.loop-body-item.result c.loop-body.out.items c.push_controls.new.out.items _
    c.loop-body-test.true c.loop-body-item.is c.in_ok-push_controls.ensures c.loop-body.invariant

pub push_item_controls-returns : goal.push_item_controls-returns
push_item_controls-returns t c = all_pushed (λ i. controls_in i.1) c.args.items.now c.loop-body.body-index c.loop-body.out.items _ c.loop-body-test.false c.loop-body.invariant
