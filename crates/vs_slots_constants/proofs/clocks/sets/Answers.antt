use Rattle.std.proofs.Common.{◌∙◌, sym, Option, ◌≡◌}
use Rattle.std.proofs.lemmas.Result.{IfOk-weaker}
use Rattle.vs_slots_constants.proofs.ClockLemmas.{sets_is}
use Rattle.vs_design.specs.vs_logic4.specs.declared.digit.Digit.{Digit}
use Rattle.vs_design.specs.declared.statement.Statement.TheViews.{out-Statement}
use Rattle.vs_slots_constants.specs.Clocks.{setting_layer}
use Rattle.vs_slots_constants.proofs.clocks.sets.Goals as goal

pub returns : goal.returns
returns c =
    IfOk-weaker _ (λ (o : Option Digit). o ≡ setting_layer c.args.design.now c.args.v (out-Statement c.core_of.result.now)) _
    (λ o e digit.
    let l = sets_is c.args.design.now c.args.v digit c.args.s.now c.core_of.result.now c.core_of.ensures in
    (λ h. e ∙ l.0 h, λ h. l.1 (sym e ∙ h)))
    c.setting_layer.ensures
