use Rattle.std.proofs.Common.{◌≡◌, drop}
use Rattle.vs_run_active.specs.Wakes.{woken_all}
use Rattle.vs_run_active.proofs.events.Events.wake_each_member.Given as goal

abbrev pub invariant-loop-assign : goal.invariant-loop-assign
invariant-loop-assign l = record {
  assigns : woken_all (drop l.assign-index l.members) l.self.assigns ≡ woken_all l.members l.fn.self.assigns;
  processes : l.self.processes ≡ l.fn.self.processes;
}
