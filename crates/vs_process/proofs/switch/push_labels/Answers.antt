use Rattle.std.proofs.Common.{List, refl, ap, ◌∙◌, if◌then◌else◌}
use Rattle.std.specs.List.{list_any}
use Rattle.std.proofs.lemmas.List.{take_all}
use Rattle.vs_design.specs.vs_logic4.specs.Cases.{matches}
use Rattle.vs_design.specs.declared.expression.Typed.{Typed}
use Rattle.vs_strobe.specs.vs_eval.specs.Values.{value_of}
use Rattle.vs_process.specs.Switches.{walked}
use Rattle.vs_process.proofs.SwitchLemmas.{label_step}
use Rattle.vs_process.proofs.switch.push_labels.Goals as goal

pub loop-e-preserved : goal.loop-e-preserved
loop-e-preserved c = λ kind digits store time otherwise.
    label_step kind digits store time c.args.all.now.items c.loop-e.all.items c.push.new.self.items _ c.args.labels.now c.loop-e.e-index c.e-item.result c.args.index otherwise
    c.loop-e-test.true c.e-item.is refl refl c.in_ok-push.ensures.items (λ o. c.loop-e.invariant kind digits store time o)

pub returns : goal.returns
returns c = λ kind digits store time otherwise.
    c.loop-e.invariant kind digits store time otherwise
    ∙ ap (λ (ls : List Typed). walked kind digits store time c.args.all.now.items (if list_any (λ e. matches kind digits (value_of e store time)) ls then c.args.index else otherwise))
    (take_all c.loop-e.e-index c.args.labels.now c.loop-e-test.false)
