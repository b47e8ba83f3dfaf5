use Rattle.std.proofs.Common.{ℕ, List, ◌++◌, ◌∙◌, ap, subst}
use Rattle.std.specs.List.{Contains}
use Rattle.vs_drivers.specs.Walks.{all_met}
use Rattle.vs_drivers.proofs.walks.passed.Goals as goal

pub reach-requires : goal.reach-requires
reach-requires c s h =
    c.requires c.args.ranges.now s (subst (λ (l : List ℕ). Contains l s)
    (c.deref.ensures.value ∙ c.in_ok-push_all_met.ensures ∙ ap (λ (l : List ℕ). l ++ all_met c.args.signals.now c.args.writers.now c.args.ranges.now) c.new-seeds.ensures.items) h)
