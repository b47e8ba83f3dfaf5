use Rattle.vs_run_steps.specs.Runs.{plan_of}
use Rattle.vs_run_steps.proofs.assigns.give.Given as goal

abbrev pub ghost-write : goal.ghost-write
ghost-write g a = plan_of a.self.now
