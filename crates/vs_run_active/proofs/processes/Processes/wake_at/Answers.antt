use Rattle.std.proofs.Common.{◌∙◌}
use Rattle.vs_run_active.specs.ProcessPlaces.{woken_in}
use Rattle.vs_run_active.proofs.LeftLemmas.{changed_none}
use Rattle.vs_run_active.proofs.processes.Processes.wake_at.Goals as goal
use Rattle.vs_run_active.proofs.ChangedLemmas.{changed_there as changed_put}

pub returns-in_default : goal.returns-in_default
returns-in_default c = changed_none (woken_in c.args.time) c.args.self.now c.args.process c.in_default.ensures

pub returns : goal.returns
returns c = c.put.ensures ∙ changed_put (woken_in c.args.time) c.args.self.now c.args.process c.in-Some.x.now c.wake.new.self c.in-Some.ensures c.wake.ensures
