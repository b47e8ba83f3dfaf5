use Rattle.std.proofs.Common.{ℕ, refl, arith, below_more as further_at}
use Rattle.vs_rules_of_signals.specs.Ranks.{RisesFrom}
use Rattle.vs_rules_of_signals.proofs.ranks.rises.Goals as goal

pub loop-place-preserved : goal.loop-place-preserved
loop-place-preserved c =
    further_at (λ (k : ℕ). RisesFrom c.args.tables.now c.args.ranks.now k) c.loop-place.place c.loop-place.invariant (c.if-not-rises_from.ensures.0 refl)

pub returns-then-not-rises_from : goal.returns-then-not-rises_from
returns-then-not-rises_from c =
    (λ t. cc, λ h. c.if-not-rises_from.ensures.1 (h c.loop-place.place (omega (arith, c.places-place-end.ensures, c.loop-place-test.true))))

pub returns : goal.returns
returns c = (λ t a h. c.loop-place.invariant a (omega (arith, h, c.places-place-end.ensures, c.loop-place-test.false)), λ h. refl)
