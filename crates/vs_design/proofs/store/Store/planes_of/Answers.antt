use Rattle.std.proofs.Common.{◌≡◌, ℕ, ◌-◌, ◌<◌, ◌≤◌, List, [], length, get_or, vec_len, slice_index, rules, sym, ◌∙◌, ap, arith}
use Rattle.std.proofs.lemmas.Grind.{get_or_default_zero}
use Rattle.std.proofs.lemmas.List.{get_or_past}
use Rattle.vs_logic4.specs.PlaneLaws.{value_plane-digits_of_planes, unknown_plane-digits_of_planes}
use Rattle.vs_logic4.specs.Planes.{value_plane, unknown_plane}
use Rattle.vs_design.specs.declared.extent.Layout.{Layout}
use Rattle.vs_design.specs.InOrder.{words_in_order, numbered_word}
use Rattle.vs_design.specs.passes.Planes.{word_at, store_of, ArePlanesOf}
use Rattle.vs_design.proofs.InOrderLemmas.{as_many_words, word_held, IsHeld}
use Rattle.vs_design.proofs.store.Store.planes_of.Goals as goal

module _ (es : List Layout) (vs us : List ℕ) (p : ArePlanesOf es vs us) (number : ℕ) where
  module _ (inside : number < length vs) where
    held : IsHeld es vs us 0 number
    held = let low : 0 ≤ number = omega arith in word_held es vs us 0 (length vs) number p.in_turn p.words low inside

    is_held : numbered_word (store_of es vs us) number ≡ word_at held.spot.width vs us number
    is_held = let whole : number ≡ number - 0 = omega arith in ap (λ k. get_or (words_in_order (store_of es vs us)) k []) whole ∙ held.digits

    value_held : value_plane (numbered_word (store_of es vs us) number) ≡ slice_index vs number
    value_held = ap value_plane is_held ∙ value_plane-digits_of_planes held.spot.width (slice_index vs number) (slice_index us number) held.is_word.value_below

    unknown_held : unknown_plane (numbered_word (store_of es vs us) number) ≡ slice_index us number
    unknown_held = ap unknown_plane is_held ∙ unknown_plane-digits_of_planes held.spot.width (slice_index vs number) (slice_index us number) held.is_word.unknown_below

  none_held : length vs ≤ number → numbered_word (store_of es vs us) number ≡ []
  none_held past =
      let all : length (words_in_order (store_of es vs us)) ≤ number = omega (arith, as_many_words es vs us 0 (length vs) p.in_turn) in
      get_or_past (words_in_order (store_of es vs us)) number [] all

pub index-requires-then-number-len : goal.index-requires-then-number-len
index-requires-then-number-len c =
    let s = c.self.inside in
    let values : vec_len s.values ≡ length s.values.items = search rules in
    let unknowns : vec_len s.unknowns ≡ length s.unknowns.items = search rules in
    omega (arith, values, unknowns, c.self.invariant.as_long, c.len.ensures, c.if-number-len.true)

pub returns-then-number-len-clause-value : goal.returns-then-number-len-clause-value
returns-then-number-len-clause-value c =
    let s = c.self.inside in
    let values : vec_len s.values ≡ length s.values.items = search rules in
    let inside : c.args.number < length s.values.items = omega (arith, values, c.len.ensures, c.if-number-len.true) in
    c.index.ensures
    ∙ get_or_default_zero s.values.items c.args.number c.index.result.now inside
    ∙ sym (value_held s.extents.now s.values.items s.unknowns.items c.self.invariant c.args.number inside)
    ∙ ap (λ store. value_plane (numbered_word store c.args.number)) c.self.view_is

pub returns-then-number-len-clause-unknown : goal.returns-then-number-len-clause-unknown
returns-then-number-len-clause-unknown c =
    let s = c.self.inside in
    let values : vec_len s.values ≡ length s.values.items = search rules in
    let inside : c.args.number < length s.values.items = omega (arith, values, c.len.ensures, c.if-number-len.true) in
    let long : c.args.number < length s.unknowns.items = omega (arith, c.self.invariant.as_long) in
    c.index-then-number-len.ensures
    ∙ get_or_default_zero s.unknowns.items c.args.number c.index-then-number-len.result.now long
    ∙ sym (unknown_held s.extents.now s.values.items s.unknowns.items c.self.invariant c.args.number inside)
    ∙ ap (λ store. unknown_plane (numbered_word store c.args.number)) c.self.view_is

pub returns-else-number-len-clause-value : goal.returns-else-number-len-clause-value
returns-else-number-len-clause-value c =
    let s = c.self.inside in
    let values : vec_len s.values ≡ length s.values.items = search rules in
    let past : length s.values.items ≤ c.args.number = omega (arith, values, c.len.ensures, c.if-number-len.false) in
    sym (ap value_plane (none_held s.extents.now s.values.items s.unknowns.items c.self.invariant c.args.number past))
    ∙ ap (λ store. value_plane (numbered_word store c.args.number)) c.self.view_is

pub returns-else-number-len-clause-unknown : goal.returns-else-number-len-clause-unknown
returns-else-number-len-clause-unknown c =
    let s = c.self.inside in
    let values : vec_len s.values ≡ length s.values.items = search rules in
    let past : length s.values.items ≤ c.args.number = omega (arith, values, c.len.ensures, c.if-number-len.false) in
    sym (ap unknown_plane (none_held s.extents.now s.values.items s.unknowns.items c.self.invariant c.args.number past))
    ∙ ap (λ store. unknown_plane (numbered_word store c.args.number)) c.self.view_is
