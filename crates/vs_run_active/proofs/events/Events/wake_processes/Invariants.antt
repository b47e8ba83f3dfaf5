use Rattle.std.proofs.Common.{◌≡◌, drop}
use Rattle.vs_run_active.specs.Wakes.{walked_by}
use Rattle.vs_run_active.proofs.events.Events.wake_processes.Given as goal

abbrev pub invariant-loop-watcher : goal.invariant-loop-watcher
invariant-loop-watcher l = record {
  processes : walked_by l.word l.bits (drop l.watcher-index l.watchers) l.self.processes ≡ walked_by l.word l.bits l.watchers l.fn.self.processes;
  assigns : l.self.assigns ≡ l.fn.self.assigns;
}
