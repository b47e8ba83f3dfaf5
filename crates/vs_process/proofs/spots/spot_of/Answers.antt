use Rattle.std.proofs.Common.{◌≡◌, ◌∙◌, ◌∷◌, [], ap, arith, length}
use Rattle.vs_design.specs.declared.statement.Aim.{Aim}
use Rattle.vs_design.specs.declared.statement.Aim.TheVariants.{Fixed}
use Rattle.vs_design.specs.vs_logic4.proofs.Basics.{only_one}
use Rattle.vs_process.proofs.SpotLemmas.{spot_is}
use Rattle.vs_process.proofs.spots.spot_of.Goals as goal

pub returns : goal.returns
returns c =
    let one : length c.args.target.now.parts.items ≡ 1 = omega (arith, c.if-len-ne1.false, c.len.ensures) in
    let parts : c.args.target.now.parts.items ≡ Fixed c.in-Fixed.s ∷ [] =
    only_one c.args.target.now.parts.items c.index.result.now one c.index.ensures ∙ ap (λ (x : Aim). x ∷ []) c.in-Fixed.is in
    spot_is c.args.design.now.signals c.args.target.now c.in-Fixed.s c.bits_at.result parts c.if-slice-target.false c.bits_at.ensures.inside c.bits_at.ensures.low c.bits_at.ensures.width
    c.bits_at.ensures.signal c.bits_at.ensures.word
