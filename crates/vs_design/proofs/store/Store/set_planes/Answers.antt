use Rattle.std.proofs.Common.{◌≡◌, ℕ, ◌-◌, ◌<◌, ◌≤◌, ⊎_elim, List, [], length, get_or, vec_len, rules, refl, sym, ◌∙◌, ap, ap₂, subst, arith}
use Rattle.std.specs.Prelude.{slice_set}
use Rattle.std.proofs.lemmas.Bool.{cases_lt}
use Rattle.std.proofs.lemmas.List.{get_or_past}
use Rattle.vs_logic4.specs.declared.digit.Digit.{Digit}
use Rattle.vs_logic4.specs.PlaneLaws.{length-digits_of_planes, value_plane-digits_of_planes, unknown_plane-digits_of_planes}
use Rattle.vs_logic4.specs.Planes.{digits_of_planes, value_plane, unknown_plane, ArePlanes}
use Rattle.vs_design.specs.declared.extent.Layout.{Layout}
use Rattle.vs_design.specs.Stores.{Store}
use Rattle.vs_design.specs.InOrder.{words_in_order, numbered_word, with_word}
use Rattle.vs_design.specs.passes.Planes.{store_of, ArePlanesOf}
use Rattle.vs_design.proofs.InOrderLemmas.{as_many_words, word_held, IsHeld}
use Rattle.vs_design.proofs.PlanesLemmas.{planes_written, put_written, new_values}
use Rattle.vs_design.proofs.store.Store.set_planes.Goals as goal

module _ (es : List Layout) (vs us : List ℕ) (p : ArePlanesOf es vs us) (number v u : ℕ) where
  abbrev size : ℕ
  size = length (numbered_word (store_of es vs us) number)

  abbrev digits : List Digit
  digits = digits_of_planes size v u

  module _ (fits : ArePlanes size v u) where
    inside : number < length vs
    inside =
        ⊎_elim (λ below. below)
        (λ past.
        let all : length (words_in_order (store_of es vs us)) ≤ number = omega (arith, as_many_words es vs us 0 (length vs) p.in_turn) in
        let none : length (numbered_word (store_of es vs us) number) ≡ 0 = ap length (get_or_past (words_in_order (store_of es vs us)) number [] all) in
        absurd (omega (arith, fits.some, none)))
        (cases_lt number (length vs))

    held : IsHeld es vs us 0 number
    held = let low : 0 ≤ number = omega arith in word_held es vs us 0 (length vs) number p.in_turn p.words low inside

    whole : number ≡ number - 0
    whole = omega arith

    long : length digits ≡ held.spot.width
    long =
        length-digits_of_planes size v u
        ∙ ap (λ k. length (get_or (words_in_order (store_of es vs us)) k [])) whole
        ∙ ap length held.digits
        ∙ length-digits_of_planes held.spot.width _ _

    value_is : value_plane digits ≡ v
    value_is = value_plane-digits_of_planes size v u fits.value_below

    unknown_is : unknown_plane digits ≡ u
    unknown_is = unknown_plane-digits_of_planes size v u fits.unknown_below

    kept : ArePlanesOf es (slice_set vs number v) (slice_set us number u)
    kept =
        subst (λ k. ArePlanesOf es (slice_set vs k v) (slice_set us k u)) held.at
        (subst (λ x. ArePlanesOf es (slice_set vs held.spot.index x) (slice_set us held.spot.index u)) value_is
        (subst (λ x. ArePlanesOf es (new_values vs us held.spot.index digits) (slice_set us held.spot.index x)) unknown_is
        (planes_written es vs us held.signal held.word held.spot digits p held.found long)))

    made : store_of es (slice_set vs number v) (slice_set us number u) ≡ with_word (store_of es vs us) number digits
    made =
        ap (λ k. store_of es (slice_set vs k v) (slice_set us k u)) (sym held.at)
        ∙ ap₂ (λ x y. store_of es (slice_set vs held.spot.index x) (slice_set us held.spot.index y)) (sym value_is) (sym unknown_is)
        ∙ put_written es vs us held.signal held.word held.spot digits p held.found long (λ w. digits) refl
        ∙ sym (held.changed digits)
        ∙ ap (λ k. with_word (store_of es vs us) k digits) (sym whole)

pub index_mut-requires : goal.index_mut-requires
index_mut-requires c =
    let s = c.self.inside in
    let fit = subst (λ (store : Store). ArePlanes (length (numbered_word store c.args.number)) c.args.value c.args.unknown) (sym c.self.view_is) c.requires in
    let values : vec_len s.values ≡ length s.values.items = search rules in
    omega (arith, values, inside s.extents.now s.values.items s.unknowns.items c.self.invariant c.args.number c.args.value c.args.unknown fit)

pub index_mut-requires-2 : goal.index_mut-requires-2
index_mut-requires-2 c =
    let s = c.self.inside in
    let fit = subst (λ (store : Store). ArePlanes (length (numbered_word store c.args.number)) c.args.value c.args.unknown) (sym c.self.view_is) c.requires in
    let unknowns : vec_len s.unknowns ≡ length s.unknowns.items = search rules in
    omega (arith, unknowns, c.self.invariant.as_long, inside s.extents.now s.values.items s.unknowns.items c.self.invariant c.args.number c.args.value c.args.unknown fit)

pub invariant_of-self : goal.invariant_of-self
invariant_of-self c =
    let s = c.self.inside in
    let fit = subst (λ (store : Store). ArePlanes (length (numbered_word store c.args.number)) c.args.value c.args.unknown) (sym c.self.view_is) c.requires in
    kept s.extents.now s.values.items s.unknowns.items c.self.invariant c.args.number c.args.value c.args.unknown fit

pub returns : goal.returns
returns c =
    let s = c.self.inside in
    let fit = subst (λ (store : Store). ArePlanes (length (numbered_word store c.args.number)) c.args.value c.args.unknown) (sym c.self.view_is) c.requires in
    made s.extents.now s.values.items s.unknowns.items c.self.invariant c.args.number c.args.value c.args.unknown fit
    ∙ ap (λ (store : Store). with_word store c.args.number (digits_of_planes (length (numbered_word store c.args.number)) c.args.value c.args.unknown)) c.self.view_is
