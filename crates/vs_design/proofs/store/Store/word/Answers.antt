use Rattle.std.proofs.Common.{Some, ◌∙◌, ap, ap₂, sym, subst}
use Rattle.vs_design.specs.Stores.{word_of}
use Rattle.vs_design.specs.passes.Planes.{word_at, IsSpot}
use Rattle.vs_design.proofs.PlanesLemmas.{is_spot, word_is, word_missing}
use Rattle.vs_design.proofs.store.Store.word.Goals as goal

pub word_at-requires : goal.word_at-requires
word_at-requires c =
    let s = c.self.inside in
    let found = sym c.in-Some.ensures in
    let known = is_spot s.extents.now s.values.items s.unknowns.items c.args.signal c.args.word c.in-Some.at c.self.invariant found in
    subst (λ vs. IsSpot c.in-Some.at vs c.deref-in-Some.result.now) (sym c.deref.ensures.value)
    (subst (λ us. IsSpot c.in-Some.at s.values.items us) (sym c.deref-in-Some.ensures.value) known)

pub returns-in-Some : goal.returns-in-Some
returns-in-Some c =
    let s = c.self.inside in
    let at = c.in-Some.at in
    let found = sym c.in-Some.ensures in
    ap Some (c.word_at.ensures ∙ ap₂ (λ vs us. word_at at.width vs us at.index) c.deref.ensures.value c.deref-in-Some.ensures.value)
    ∙ word_is s.extents.now s.values.items s.unknowns.items c.args.signal c.args.word at found
    ∙ ap (λ store. word_of store c.args.signal c.args.word) c.self.view_is

pub returns-in-None : goal.returns-in-None
returns-in-None c =
    let s = c.self.inside in
    let none = sym c.in-None.ensures in
    word_missing s.extents.now s.values.items s.unknowns.items c.args.signal c.args.word none ∙ ap (λ store. word_of store c.args.signal c.args.word) c.self.view_is
