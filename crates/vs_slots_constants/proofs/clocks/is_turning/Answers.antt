use Rattle.std.proofs.Common.{◌∙◌, sym}
use Rattle.vs_slots_constants.proofs.ClockLemmas.{turning_is}
use Rattle.vs_slots_constants.proofs.clocks.is_turning.Goals as goal

pub returns : goal.returns
returns c =
    let l = turning_is c.args.design.now c.args.wide c.args.v c.args.s.now c.core_of.result.now c.core_of.ensures in
    (λ h. l.1 (sym c.turning_layer.ensures ∙ h), λ h. c.turning_layer.ensures ∙ l.0 h)
