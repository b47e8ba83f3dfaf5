use Rattle.std.proofs.Common.{◌≡◌, ◌<◌, ℕ, false}
use Rattle.vs_run_regions.specs.vs_process.specs.declared.moves.Move.TheVariants.{Step}
use Rattle.vs_run_regions.specs.vs_process.specs.Executions.{is_enabled}
use Rattle.vs_run_steps.specs.Runs.{state_of}
use Rattle.vs_kernel.proofs.state.sought_step.Given as goal

abbrev pub invariant-loop-process : goal.invariant-loop-process
invariant-loop-process g l = (i : ℕ) → i < l.process → is_enabled (state_of l.run) (Step i) ≡ false
