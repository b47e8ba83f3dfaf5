use Rattle.vs_kernel.specs.Snapshot.{IsSnapshot}
use Rattle.vs_race_orders.proofs.trial.run_trial.Given as goal

abbrev pub invariant-loop-left : goal.invariant-loop-left
invariant-loop-left l = IsSnapshot l.run

abbrev pub decreases-loop-left : goal.decreases-loop-left
decreases-loop-left l = l.left
