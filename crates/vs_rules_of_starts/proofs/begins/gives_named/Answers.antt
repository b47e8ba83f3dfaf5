use Rattle.std.proofs.Common.{List, get_or, length, ◌≤◌, ◌∙◌, ap, sym, subst}
use Rattle.std.specs.List.{slice_get}
use Rattle.vs_design.specs.declared.signal.Signal.{Signal}
use Rattle.vs_design.specs.declared.statement.Aim.{Aim}
use Rattle.vs_rules_of_starts.proofs.BeginningLemmas.{at_index, no_aim}
use Rattle.vs_rules_of_starts.proofs.begins.gives_named.Goals as goal

pub returns : goal.returns
returns c =
    no_aim c.args.design.now c.args.named.now c.args.g (get_or c.signals-signals.result.now c.args.g c.index-signals-g.result) c.args.target.now c.args.value.now c.loop-aim.aim-index
    (ap (λ (l : List Signal). slice_get l c.args.g) (sym c.signals-signals.ensures) ∙ at_index c.signals-signals.result.now c.args.g c.index-signals-g.result c.if-g-signals.false)
    (subst (λ (l : List Aim). length l ≤ c.loop-aim.aim-index) c.deref-aim-items.ensures.value c.loop-aim-test.false)
    c.loop-aim.invariant
