use Rattle.std.proofs.Common.{◌≡◌, ◌+◌, Some, length, slice_get, refl, ◌∙◌, ap, subst, arith}
use Rattle.std.specs.Prelude.{sum_by}
use Rattle.std.proofs.lemmas.Option.{slice_get_read}
use Rattle.vs_design.specs.declared.extent.Layout.{Layout}
use Rattle.vs_design.specs.InOrder.{words_before}
use Rattle.vs_design.specs.Parts.{Parts}
use Rattle.vs_design.proofs.InOrderLemmas.{first_is}
use Rattle.vs_design.proofs.design.Design.first_word.Goals as goal

pub returns-in-Some : goal.returns-in-Some
returns-in-Some c =
    let d = c.self.inside in
    let are = c.self.invariant.3 in
    let found = c.in-Some.ensures.lookup in
    let at = slice_get_read c.deref.result.now (length c.deref.result.now) c.args.signal c.in-Some.extent.now refl found.3.0 found.1 in
    let here = subst (λ es. slice_get es c.args.signal ≡ Some c.in-Some.extent.now) c.deref.ensures.value at in
    let whole : 0 + words_before d.signals.items c.args.signal ≡ words_before d.signals.items c.args.signal = omega arith in
    first_is d.signals.items d.extents.items 0 (sum_by (λ (e : Layout). e.count) d.extents.items) c.args.signal c.in-Some.extent.now are.in_turn are.counts here
    ∙ whole
    ∙ ap (λ (p : Parts). words_before p.signals c.args.signal) c.self.view_is
