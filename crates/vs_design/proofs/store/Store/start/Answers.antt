use Rattle.std.proofs.Common.{◌≡◌, ◌∙◌, ap, ap₂, sym, length, map}
use Rattle.std.proofs.lemmas.Result.{IfOk-weaker}
use Rattle.vs_design.specs.declared.signal.Signal.{Signal}
use Rattle.vs_design.specs.Drivers.{undriven_word, all_driven, in_copies}
use Rattle.vs_design.specs.Stores.{start_words}
use Rattle.vs_design.specs.passes.Planes.{counts_of}
use Rattle.vs_design.proofs.Drivers.{start_is, lengths-start}
use Rattle.vs_design.proofs.store.Store.start.Goals as goal

pub copies-requires-clause-widths : goal.copies-requires-clause-widths
copies-requires-clause-widths c =
    let signals = c.signals-signals.result.now in
    let assigns = c.assigns.result.now in
    let words = c.deref.ensures.value ∙ c.fill_all.ensures ∙ ap (all_driven assigns) c.in_ok-first.ensures in
    ap (map length) words ∙ lengths-start assigns signals ∙ ap (map (λ (s : Signal). s.width)) c.signals-signals.ensures ∙ sym c.extents.ensures.widths

pub returns : goal.returns
returns c =
    let signals = c.args.design.now.signals in
    let assigns = c.args.design.now.assigns in
    let given = c.in_ok-first.ensures ∙ ap (map undriven_word) c.signals-signals.ensures in
    let first = c.deref.ensures.value ∙ c.fill_all.ensures ∙ ap₂ all_driven c.assigns.ensures given in
    let all : in_copies (counts_of c.extents.result.now) c.deref.result.now ≡ start_words assigns 0 signals =
    ap₂ in_copies c.extents.ensures.counts first ∙ start_is assigns signals in
    IfOk-weaker c.copies.result _ _ (λ s is. is ∙ all) c.copies.ensures
