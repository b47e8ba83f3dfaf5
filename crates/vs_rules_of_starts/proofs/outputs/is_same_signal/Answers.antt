use Rattle.std.proofs.Common.{get_or, List, ◌∙◌, ap, sym, subst, length, arith, ◌≤◌}
use Rattle.std.proofs.lemmas.Option.{slice_get-get_or, slice_get_past}
use Rattle.std.specs.List.{slice_get}
use Rattle.vs_design.specs.declared.signal.Signal.{Signal}
use Rattle.vs_rules_of_starts.proofs.OutputLemmas.{same_signal, no_signal}
use Rattle.vs_rules_of_starts.proofs.outputs.is_same_signal.Goals as goal

pub returns : goal.returns
returns c =
    same_signal c.args.design.now c.args.a.now c.args.b.now c.requires.sized c.requires.start c.args.signal
    (get_or c.signals-signals.result.now c.args.signal c.index-signals-signal.result)
    (ap (λ (l : List Signal). slice_get l c.args.signal) (sym c.signals-signals.ensures)
    ∙ slice_get-get_or c.signals-signals.result.now c.args.signal c.index-signals-signal.result c.if-signal-signals.false)
    c.are_same_words.result c.are_same_words.ensures

pub returns-then-signal-signals : goal.returns-then-signal-signals
returns-then-signal-signals c =
    let same = no_signal c.args.design.now c.args.a.now c.args.b.now c.requires.sized c.requires.start c.args.signal
    (slice_get_past c.args.design.now.signals c.args.signal (subst (λ (l : List Signal). length l ≤ c.args.signal) c.signals-signals.ensures c.if-signal-signals.true)) in
    (λ t. same, λ e. grind arith)
