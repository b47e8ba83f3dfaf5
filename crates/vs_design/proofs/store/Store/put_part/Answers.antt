use Rattle.std.proofs.Common.{◌≡◌, Some, option_map, length, ◌∙◌, ap, ap₂, sym, subst}
use Rattle.vs_logic4.specs.Lengths.{length-with_part}
use Rattle.vs_logic4.specs.PlaneLaws.{length-digits_of_planes}
use Rattle.vs_design.specs.Stores.{overlaid, put_part, word_of}
use Rattle.vs_design.specs.passes.Planes.{word_at, store_of, IsSpot, ArePlanesOf}
use Rattle.vs_design.proofs.PlanesLemmas.{is_spot, nothing_written, put_written, planes_written, new_values, word_is, word_missing}
use Rattle.vs_design.proofs.Stores.{part_changes}
use Rattle.vs_design.proofs.store.Store.put_part.Goals as goal

pub returns-in_default-clause-put : goal.returns-in_default-clause-put
returns-in_default-clause-put c =
    let s = c.self.inside in
    let p = c.args.part in
    let none = sym c.in_default.ensures in
    subst (λ store. store ≡ put_part store p) c.self.view_is
    (nothing_written s.extents.now s.values.items s.unknowns.items p.signal (overlaid p.low p.digits) p.word none)

pub word_at-before-requires : goal.word_at-before-requires
word_at-before-requires c =
    let s = c.self.inside in
    let p = c.args.part in
    let found = sym c.in-Some.ensures in
    let known = is_spot s.extents.now s.values.items s.unknowns.items p.signal p.word c.in-Some.at c.self.invariant found in
    subst (λ vs. IsSpot c.in-Some.at vs c.deref-2.result.now) (sym c.deref.ensures.value)
    (subst (λ us. IsSpot c.in-Some.at s.values.items us) (sym c.deref-2.ensures.value) known)

pub set_word-requires : goal.set_word-requires
set_word-requires c =
    let s = c.self.inside in
    let p = c.args.part in
    let found = sym c.in-Some.ensures in
    is_spot s.extents.now s.values.items s.unknowns.items p.signal p.word c.in-Some.at c.self.invariant found

pub invariant_of-self : goal.invariant_of-self
invariant_of-self c =
    let s = c.self.inside in
    let p = c.args.part in
    let at = c.in-Some.at in
    let found = sym c.in-Some.ensures in
    let before = c.word_at-before.ensures ∙ ap₂ (λ vs us. word_at at.width vs us at.index) c.deref.ensures.value c.deref-2.ensures.value in
    let long = ap length c.over-behind.ensures ∙ length-with_part p.low p.digits c.word_at-before.result ∙ ap length before ∙ length-digits_of_planes at.width _ _ in
    subst (λ vs. ArePlanesOf s.extents.now vs c.set_word.new.unknowns.items) (sym c.set_word.ensures.values)
    (subst (λ us. ArePlanesOf s.extents.now (new_values s.values.items s.unknowns.items at.index c.over-behind.result) us) (sym c.set_word.ensures.unknowns)
    (planes_written s.extents.now s.values.items s.unknowns.items p.signal p.word at c.over-behind.result c.self.invariant found long))

pub returns-in_default-clause-before : goal.returns-in_default-clause-before
returns-in_default-clause-before c =
    let s = c.self.inside in
    let p = c.args.part in
    let none = sym c.in_default.ensures in
    sym (word_missing s.extents.now s.values.items s.unknowns.items p.signal p.word none ∙ ap (λ store. word_of store p.signal p.word) c.self.view_is)

pub returns-clause-put : goal.returns-clause-put
returns-clause-put c =
    let s = c.self.inside in
    let p = c.args.part in
    let at = c.in-Some.at in
    let found = sym c.in-Some.ensures in
    let before = c.word_at-before.ensures ∙ ap₂ (λ vs us. word_at at.width vs us at.index) c.deref.ensures.value c.deref-2.ensures.value in
    let long = ap length c.over-behind.ensures ∙ length-with_part p.low p.digits c.word_at-before.result ∙ ap length before ∙ length-digits_of_planes at.width _ _ in
    let is = c.over-behind.ensures ∙ ap (overlaid p.low p.digits) before in
    ap₂ (store_of s.extents.now) c.set_word.ensures.values c.set_word.ensures.unknowns
    ∙ put_written s.extents.now s.values.items s.unknowns.items p.signal p.word at c.over-behind.result c.self.invariant found long (overlaid p.low p.digits) is
    ∙ ap (λ store. put_part store p) c.self.view_is

pub returns-clause-before : goal.returns-clause-before
returns-clause-before c =
    let s = c.self.inside in
    let p = c.args.part in
    let at = c.in-Some.at in
    let found = sym c.in-Some.ensures in
    sym (ap Some (c.word_at-before.ensures ∙ ap₂ (λ vs us. word_at at.width vs us at.index) c.deref.ensures.value c.deref-2.ensures.value)
    ∙ word_is s.extents.now s.values.items s.unknowns.items p.signal p.word at found
    ∙ ap (λ store. word_of store p.signal p.word) c.self.view_is)

pub returns-clause-behind : goal.returns-clause-behind
returns-clause-behind c =
    ap (λ store. word_of store c.args.part.signal c.args.part.word) (returns-clause-put c)
    ∙ part_changes c.args.part c.args.self.now
    ∙ ap (option_map (overlaid c.args.part.low c.args.part.digits)) (returns-clause-before c)
    ∙ ap Some (sym c.over-behind.ensures)
