use Rattle.std.proofs.Common.{◌≡◌, ℕ, ◌<◌, List, drop, length, ap, ◌∙◌, arith}
use Rattle.std.proofs.lemmas.List.{length-replicate, length-set}
use Rattle.vs_design.specs.vs_logic4.specs.declared.case.CaseKind.TheVariants as kinds
use Rattle.vs_process.specs.Switches.{table_index, walked}
use Rattle.vs_process.proofs.SwitchLemmas.{table_none, table_step}
use Rattle.vs_process.proofs.switch.indices_of.Goals as goal

pub loop-i-init : goal.loop-i-init
loop-i-init c = record {
  long = ap length (c.in_ok-indices.ensures.items_if_clones_equal (λ y e. e)) ∙ length-replicate c.args.count c.args.otherwise;
  leads = λ digits store time.
      ap (λ (l : List ℕ). table_index digits c.args.width l c.args.otherwise) (c.in_ok-indices.ensures.items_if_clones_equal (λ y e. e))
      ∙ table_none c.args.labels.now (length c.args.labels.now) c.args.count c.args.width c.args.otherwise digits store time (omega arith);
}

pub loop-i-preserved : goal.loop-i-preserved
loop-i-preserved c =
    let below : c.in-Some.number < length c.loop-i.indices.items = omega (arith, c.loop-i.invariant.long) in
    record {
      long = length-set c.loop-i.indices.items c.in-Some.number c.index-labels-i.result.index ∙ c.loop-i.invariant.long;
      leads = λ digits store time.
          table_step c.args.labels.now c.loop-i.i c.index-labels-i.result c.args.width c.in-Some.number c.loop-i.indices.items c.args.otherwise digits store time
          c.loop-i-test.true c.loop-i.auto.i c.index-labels-i.is (rw c.in-Some.is at c.number_of.ensures) below (c.loop-i.invariant.leads digits store time);
    }

pub returns : goal.returns
returns c = λ digits store time.
    let none : c.loop-i.i ≡ 0 = omega arith in
    c.loop-i.invariant.leads digits store time ∙ ap (λ i. walked kinds.Case digits store time (drop i c.args.labels.now) c.args.otherwise) none
