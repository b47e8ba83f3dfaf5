use Rattle.std.proofs.Common.{ℕ, ◌≤◌, ◌∙◌, List, length, ap, subst}
use Rattle.vs_design.specs.declared.signal.Signal.{Signal}
use Rattle.vs_design.specs.Parts.{Parts}
use Rattle.vs_claims.proofs.RootLemmas.{none_more as more_below}
use Rattle.vs_rules_of_starts.specs.Started.{IsStartedBy}
use Rattle.vs_rules_of_starts.proofs.BeginningLemmas.{not_told}
use Rattle.vs_rules_of_starts.proofs.StartedLemmas.{no_starter}
use Rattle.vs_rules_of_starts.proofs.starter.has_starter.Goals as goal

pub loop-g-preserved : goal.loop-g-preserved
loop-g-preserved c i are =
    more_below (λ (k : ℕ). IsStartedBy c.args.facts.now.design c.args.facts.now.claims i k) c.loop-g.g (c.loop-g.invariant i are)
    (not_told c.in_ok-started.started (IsStartedBy c.args.facts.now.design c.args.facts.now.claims i c.loop-g.g) c.if-started.false (c.in_ok-started.ensures i are))

pub returns : goal.returns
returns c i are =
    no_starter c.args.facts.now.design c.args.facts.now.claims i c.loop-g.g
    (subst (λ (l : List Signal). length l ≤ c.loop-g.g) (c.signals-g-end.ensures ∙ ap (λ (p : Parts). p.signals) c.design.ensures) c.loop-g-test.false) (c.loop-g.invariant i are)
