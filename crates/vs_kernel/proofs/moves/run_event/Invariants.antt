use Rattle.vs_run_steps.specs.Runs.{plan_of}
use Rattle.vs_kernel.proofs.moves.run_event.Given as goal

abbrev pub ghost-run_process : goal.ghost-run_process
ghost-run_process g a = plan_of a.self.now
