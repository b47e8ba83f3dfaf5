use Rattle.vs_kernel.specs.Standing.{IsStanding}
use Rattle.vs_race_orders.proofs.trial.reference_of.Given as goal

abbrev pub invariant-loop-left : goal.invariant-loop-left
invariant-loop-left l = IsStanding l.run

abbrev pub decreases-loop-left : goal.decreases-loop-left
decreases-loop-left l = l.left
