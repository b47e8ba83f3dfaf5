use Rattle.vs_run_steps.specs.Runs.{plan_of}
use Rattle.vs_kernel.proofs.moves.make.Given as goal

abbrev pub ghost-write_planes : goal.ghost-write_planes
ghost-write_planes g a = plan_of a.self.now

abbrev pub ghost-write_activated : goal.ghost-write_activated
ghost-write_activated g a = plan_of a.self.now
