use Rattle.std.proofs.Common.{◌≡◌, ◌≤◌, ◌-◌}
use Rattle.vs_run_steps.specs.Runs.{IsRunOf, marks_of, state_of}
use Rattle.vs_run_steps.specs.Turns.{AreMade}
use Rattle.vs_run_active.specs.Changes.{MarkChanges}
use Rattle.vs_kernel.proofs.moves.make_updates.Given as goal

abbrev pub invariant-loop-taken : goal.invariant-loop-taken
invariant-loop-taken g l = record {
  within : l.taken ≤ l.limit;
  made : AreMade l.taken (state_of l.fn.run) (state_of l.run);
  run : IsRunOf l.fn.run.design.now l.run;
  marked : MarkChanges (marks_of l.fn.run) (marks_of l.run) (state_of l.fn.run).store (state_of l.run).store;
  first : l.taken ≡ 0 → l.run ≡ l.fn.run;
}

abbrev pub decreases-loop-taken : goal.decreases-loop-taken
decreases-loop-taken g l = l.limit - l.taken
