use Rattle.std.proofs.Common.{subst, ap, ◌∙◌, rules, w64}
use Rattle.std.proofs.lemmas.Int.{to_z-of_z}
use mir.Val.{SFits}
use Rattle.vs_design.specs.vs_logic4.specs.Parts.{selected}
use Rattle.vs_widths.specs.select_passes.Places.{HasConstantValue}
use Rattle.vs_widths.proofs.ExcerptLemmas.{cut_fixed, cut_chosen}
use Rattle.vs_widths.proofs.fixing.cut.Goals as goal

pub returns-in-Some : goal.returns-in-Some
returns-in-Some c =
    let e = c.args.extent in
    let z = c.place_of-place.result in
    let z64 : SFits w64 z = search rules in
    cut_fixed c.args.digits c.select.result c.in-Some.low e z (subst (HasConstantValue e.index) c.in-Some.is c.in_ok-low.ensures) c.place_of-place.ensures
    (c.select.ensures ∙ ap (λ y. selected y e.shape.width c.args.digits) (to_z-of_z w64 z z64))

pub returns-in_ok-excerpt-in-None : goal.returns-in_ok-excerpt-in-None
returns-in_ok-excerpt-in-None c =
    let e = c.args.extent in
    let o = c.in_ok-excerpt-in-None.ensures.ok in
    cut_chosen c.args.digits e c.in_ok-excerpt-in-None.excerpt c.in_ok-low-in-None.low c.in_ok-low-in-None.ensures (ap (λ z. z.digits) o) (ap (λ z. z.bits) o) (ap (λ z. z.width) o)
