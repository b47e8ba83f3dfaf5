use Rattle.std.proofs.Common.{◌≡◌, ◌∙◌, ◌++◌, ◌∷◌, [], ◌+◌, ap, arith, refl, sym, subst, take, length, replicate, ◌<◌, ◌≤◌}
use Rattle.std.proofs.Math.Numerals.{add-one}
use Rattle.std.proofs.Math.Seq.{take-length}
use Rattle.std.proofs.lemmas.List.{take_more, take_all, length-map}
use Rattle.std.proofs.lemmas.Option.{slice_get_read}
use Rattle.vs_design.specs.declared.extent.Layout.{Layout}
use Rattle.vs_design.specs.Drivers.{in_copies}
use Rattle.vs_design.specs.passes.Planes.{ArePlanesOf, store_of, counts_of}
use Rattle.vs_design.proofs.Drivers.{copies-more, length-in_copies}
use Rattle.vs_design.proofs.PlanesLemmas.{planes_grown, store_grown, next_first}
use Rattle.vs_design.proofs.ExtentLemmas.{same_number, same_width, count_at}
use Rattle.vs_design.proofs.store.Store.copies.Goals as goal

pub loop-i-preserved : goal.loop-i-preserved
loop-i-preserved c =
    let extents = c.args.extents.now in
    let words = c.args.words.now in
    let i = c.loop-i.i in
    let e = c.index-extents-i.result in
    let w = c.index-words-i.result in
    let vs = c.loop-i.values.items in
    let us = c.loop-i.unknowns.items in
    let counts = counts_of extents in
    let values = c.in_ok-fill.ensures ∙ ap (λ v. vs ++ replicate e.count v) c.value_plane.ensures in
    let unknowns = c.in_ok-fill-2.ensures ∙ ap (λ u. us ++ replicate e.count u) c.unknown_plane.ensures in
    let at_extent = slice_get_read extents (length extents) i e refl c.loop-i-test.true c.index-extents-i.is in
    let at_word = slice_get_read words (length extents) i w (sym (same_number extents words c.requires.widths)) c.loop-i-test.true c.index-words-i.is in
    let width = same_width extents words i e w c.requires.widths at_extent at_word in
    let some : 0 < length w = subst (λ n. 0 < n) width e.sized.0 in
    let most : length w ≤ 64 = subst (λ n. n ≤ 64) width e.sized.1 in
    let first = next_first extents 0 (length vs) _ i e c.requires.in_turn c.loop-i.invariant.planes.in_turn at_extent in
    let next : take (i + 1) extents ≡ take i extents ++ e ∷ [] =
    take_more extents i e c.loop-i-test.true ∙ ap (λ (x : Layout). take i extents ++ x ∷ []) (sym c.index-extents-i.is) in
    record {
      planes = planes_grown (take i extents) (take (i + 1) extents) vs us c.fill.new.plane.items c.fill-in-loop-i.new.plane.items e e.count w
          next values unknowns c.loop-i.invariant.planes first refl width some most;
      store =
          store_grown (take i extents) (take (i + 1) extents) vs us c.fill.new.plane.items c.fill-in-loop-i.new.plane.items e e.count w
          next values unknowns c.loop-i.invariant.planes first refl width
          ∙ ap (λ front. front ++ replicate e.count w ∷ []) c.loop-i.invariant.store
          ∙ sym (copies-more counts words i e.count w (count_at extents i e at_extent) at_word)
          ∙ ap (λ n. take n (in_copies counts words)) (sym (add-one i));
    }

pub returns : goal.returns
returns c =
    let extents = c.args.extents.now in
    let words = c.args.words.now in
    let counts = counts_of extents in
    let number : c.loop-i.i ≡ length extents = omega (arith, c.loop-i-test.false, c.loop-i.auto.i-end) in
    let whole : take c.loop-i.i extents ≡ extents = ap (λ n. take n extents) number ∙ take-length extents in
    let same : length words ≡ length counts = same_number extents words c.requires.widths ∙ sym (length-map extents (λ (e : Layout). e.count)) in
    let all : c.loop-i.i ≡ length (in_copies counts words) =
    number ∙ sym (length-in_copies counts words same ∙ length-map extents (λ (e : Layout). e.count)) in
    subst (λ es. store_of es c.loop-i.values.items c.loop-i.unknowns.items ≡ in_copies counts words) whole
    (c.loop-i.invariant.store ∙ ap (λ n. take n (in_copies counts words)) all ∙ take-length (in_copies counts words))

pub bounds-words-i : goal.bounds-words-i
bounds-words-i c = subst (λ n. c.loop-i.i < n) (sym (same_number c.args.extents.now c.args.words.now c.requires.widths)) c.loop-i-test.true

pub invariant_of-result : goal.invariant_of-result
invariant_of-result c =
    subst (λ es. ArePlanesOf es c.loop-i.values.items c.loop-i.unknowns.items) (take_all c.loop-i.i c.args.extents.now c.loop-i-test.false) c.loop-i.invariant.planes
