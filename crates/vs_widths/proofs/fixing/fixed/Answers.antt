use Rattle.std.proofs.Common.{refl, subst, ap, ◌∙◌, rules, w32, w64}
use Rattle.std.proofs.lemmas.Int.{to_z-of_z}
use mir.Val.{SFits, to_z, of_z}
use Rattle.vs_widths.specs.select_passes.Places.{HasConstantValue}
use Rattle.vs_widths.proofs.FixingLemmas.{cast_fits, fixed_as}
use Rattle.vs_widths.proofs.fixing.fixed.Goals as goal

pub overflow_cast-result : goal.overflow_cast-result
overflow_cast-result c =
    let place = c.args.chosen_bits.now in
    let z = c.place_of.result in
    let z64 : SFits w64 z = search rules in
    let z32 : SFits w32 z = cast_fits z place.extent.axis place.extent.shape c.in-Some-2.low c.place_of.ensures in
    rw (to_z-of_z w64 z z64) z32

pub returns : goal.returns
returns c =
    let place = c.args.chosen_bits.now in
    let z = c.place_of.result in
    let z64 : SFits w64 z = search rules in
    let z32 : SFits w32 z = cast_fits z place.extent.axis place.extent.shape c.in-Some-2.low c.place_of.ensures in
    fixed_as place _ c.in-Some.word c.in-Some-2.low (subst (HasConstantValue place.word) c.in-Some.is c.in_ok-word.ensures) (subst (HasConstantValue place.extent.index) c.in-Some-2.is c.in_ok-low.ensures) refl refl c.word_place.ensures
    (ap (λ y. to_z w32 (of_z w32 y)) (to_z-of_z w64 z z64) ∙ to_z-of_z w32 z z32 ∙ c.place_of.ensures)
