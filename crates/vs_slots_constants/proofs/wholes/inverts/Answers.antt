use Rattle.std.proofs.Common.{◌∙◌, sym}
use Rattle.vs_design.specs.declared.expression.Typed.TheViews.{out-Typed}
use Rattle.vs_slots_constants.proofs.WholeLemmas.{inverts_is}
use Rattle.vs_slots_constants.proofs.wholes.inverts.Goals as goal

pub returns : goal.returns
returns c v =
    let l = inverts_is c.args.design.now v (out-Typed c.args.e.now) in
    (λ h. c.inverts_layer.ensures ∙ l.0 h, λ h. l.1 (sym c.inverts_layer.ensures ∙ h))
