use Rattle.vs_run_steps.specs.Runs.{IsRunOf}
use Rattle.vs_race_pair.proofs.course.run_to.Given as goal

abbrev pub invariant-loop-taken : goal.invariant-loop-taken
invariant-loop-taken g l = IsRunOf l.forms l.run
