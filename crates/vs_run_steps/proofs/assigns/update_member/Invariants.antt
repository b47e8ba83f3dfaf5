use Rattle.vs_run_steps.specs.Runs.{plan_of}
use Rattle.vs_run_steps.proofs.assigns.update_member.Given as goal

abbrev pub ghost-drive : goal.ghost-drive
ghost-drive g a = plan_of a.run.now
