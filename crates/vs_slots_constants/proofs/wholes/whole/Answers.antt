use Rattle.std.proofs.Common.{◌∙◌, sym}
use Rattle.vs_design.specs.declared.expression.Typed.TheViews.{out-Typed}
use Rattle.vs_slots_constants.proofs.WholeLemmas.{layer_is}
use Rattle.vs_slots_constants.proofs.wholes.whole.Goals as goal

pub returns : goal.returns
returns c v =
    let l = layer_is c.args.design.now v (out-Typed c.args.e.now) in
    (λ h. c.whole_layer.ensures ∙ l.0 h, λ h. l.1 (sym c.whole_layer.ensures ∙ h))
