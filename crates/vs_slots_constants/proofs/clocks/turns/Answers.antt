use Rattle.vs_slots_constants.proofs.ClockLemmas.{turns_is}
use Rattle.vs_slots_constants.proofs.clocks.turns.Goals as goal

pub returns : goal.returns
returns c half =
    let l = turns_is c.args.design.now c.args.wide c.args.v half c.args.s.now c.core_of.result.now c.core_of.ensures in
    (λ h. (c.turns_layer.ensures half).0 (l.0 h), λ h. l.1 ((c.turns_layer.ensures half).1 h))
