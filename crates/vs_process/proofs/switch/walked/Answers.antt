use Rattle.std.proofs.Common.{sym, true, false, ◌∙◌, ap}
use Rattle.vs_design.specs.vs_logic4.specs.Cases.{matches}
use Rattle.vs_process.proofs.SwitchLemmas.{any_next, any_end}
use Rattle.vs_process.proofs.switch.walked.Goals as goal

pub returns-then-matches : goal.returns-then-matches
returns-then-matches c =
    sym
    (any_next c.args.kind c.args.digits c.args.store.now c.args.time c.args.labels.now c.loop-e.e-index c.loop-e-item.result c.args.otherwise true c.loop-e-test.true c.loop-e-item.is
    (ap (matches c.args.kind c.args.digits) (sym c.value.ensures) ∙ sym c.matches.ensures ∙ c.if-matches.true))
    ∙ c.loop-e.invariant

pub loop-e-preserved : goal.loop-e-preserved
loop-e-preserved c =
    sym
    (any_next c.args.kind c.args.digits c.args.store.now c.args.time c.args.labels.now c.loop-e.e-index c.loop-e-item.result c.args.otherwise false c.loop-e-test.true c.loop-e-item.is
    (ap (matches c.args.kind c.args.digits) (sym c.value.ensures) ∙ sym c.matches.ensures ∙ c.if-matches.false))
    ∙ c.loop-e.invariant

pub returns : goal.returns
returns c =
    sym (any_end c.args.kind c.args.digits c.args.store.now c.args.time c.args.labels.now c.loop-e.e-index c.args.otherwise c.loop-e-test.false) ∙ c.loop-e.invariant
