use Rattle.std.proofs.Common.{◌≡◌, true}
use Rattle.vs_kernel.specs.Snapshot.{IsSnapshot}
use Rattle.vs_explain.proofs.steps.count_steps.Given as goal

abbrev pub invariant-loop-left : goal.invariant-loop-left
invariant-loop-left g l = record {
  run : IsSnapshot l.run;
  chooses : l.run.chooses ≡ true;
}

abbrev pub decreases-loop-left : goal.decreases-loop-left
decreases-loop-left g l = l.left
