use Rattle.std.proofs.Common.{ℕ, refl, arith, below_more as further_at}
use Rattle.vs_rules_of_signals.specs.Ranks.{ApartAt}
use Rattle.vs_rules_of_signals.proofs.ranks.Ranks.are_apart.Goals as goal

pub loop-k-preserved : goal.loop-k-preserved
loop-k-preserved c =
    further_at (λ (i : ℕ). ApartAt c.args.tables.now c.args.self.now c.args.places.now i) c.loop-k.k c.loop-k.invariant (c.if-not-is_apart_at.ensures.0 refl)

pub returns-then-not-is_apart_at : goal.returns-then-not-is_apart_at
returns-then-not-is_apart_at c = (λ t. cc, λ h. c.if-not-is_apart_at.ensures.1 (h c.loop-k.k (omega arith)))

pub returns : goal.returns
returns c = (λ t i h. c.loop-k.invariant i (omega (arith, h, c.loop-k-test.false)), λ h. refl)
