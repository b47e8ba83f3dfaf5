use Rattle.std.proofs.Common.{◌≡◌, ◌<◌, ℕ, false, slice_get}
use Rattle.vs_run_regions.specs.vs_process.specs.Executions.{if_some}
use Rattle.vs_run_active.specs.Touches.{is_left}
use Rattle.vs_kernel.proofs.state.sought_assign.Given as goal

abbrev pub invariant-loop-assign : goal.invariant-loop-assign
invariant-loop-assign g l = (j : ℕ) → j < l.assign → if_some is_left (slice_get l.run.watched.events.assigns j) ≡ false
