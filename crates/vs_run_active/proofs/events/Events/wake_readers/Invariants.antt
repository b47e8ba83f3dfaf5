use Rattle.std.proofs.Common.{◌≡◌, drop}
use Rattle.vs_run_active.specs.Groups.{meaning, spelled}
use Rattle.vs_run_active.specs.Wakes.{has_one, woken_watched}
use Rattle.vs_run_active.proofs.events.Events.wake_readers.Given as goal

abbrev pub invariant-loop-watcher : goal.invariant-loop-watcher
invariant-loop-watcher l = record {
  assigns : woken_watched (has_one l.word l.bits) (spelled (meaning l.groups) (drop l.watcher-index l.watchers)) l.self.assigns
      ≡ woken_watched (has_one l.word l.bits) (spelled (meaning l.groups) l.watchers) l.fn.self.assigns;
  processes : l.self.processes ≡ l.fn.self.processes;
}
