use Rattle.std.proofs.Common.{◌∙◌, sym, ap}
use Rattle.vs_slots_constants.specs.Wholes.{whole_parts}
use Rattle.vs_slots_constants.proofs.WholeLemmas.{target_is}
use Rattle.vs_slots_constants.proofs.wholes.whole_target.Goals as goal

pub returns : goal.returns
returns c v =
    let l = target_is c.args.design.now v c.args.target.now in
    let e = c.whole_parts.ensures ∙ ap (whole_parts c.args.design.now) c.deref.ensures.value in
    (λ h. e ∙ l.0 h, λ h. l.1 (sym e ∙ h))
