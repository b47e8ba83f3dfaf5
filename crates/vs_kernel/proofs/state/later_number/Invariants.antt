use Rattle.std.proofs.Common.{◌≡◌}
use Rattle.vs_design.specs.Parts.{Parts}
use Rattle.vs_run_steps.specs.Runs.{IsRunOf, state_of}
use Rattle.vs_kernel.proofs.state.later_number.Given as goal

abbrev pub invariant-loop : goal.invariant-loop
invariant-loop g l = record {
  state : state_of l.run ≡ state_of l.fn.run;
  marks : l.run.watched.marks ≡ l.fn.run.watched.marks;
  run : (design : Parts) → IsRunOf design l.fn.run → IsRunOf design l.run;
}
