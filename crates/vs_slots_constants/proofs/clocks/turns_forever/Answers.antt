use Rattle.vs_slots_constants.proofs.ClockLemmas.{forever_is}
use Rattle.vs_slots_constants.proofs.clocks.turns_forever.Goals as goal

pub returns : goal.returns
returns c half =
    let l = forever_is c.args.design.now c.args.wide c.args.v half c.args.s.now c.core_of.result.now c.core_of.ensures in
    (λ h. (c.forever_layer.ensures half).0 (l.0 h), λ h. l.1 ((c.forever_layer.ensures half).1 h))
