use Rattle.std.proofs.Common.{◌≡◌, drop}
use Rattle.vs_run_active.specs.ProcessPlaces.{woken_in}
use Rattle.vs_kernel.specs.Leaving.{changed_each}
use Rattle.vs_kernel.proofs.moves.wake_each.Given as goal

abbrev pub invariant-loop-process : goal.invariant-loop-process
invariant-loop-process l = record {
  processes : changed_each (woken_in l.time) (drop l.process-index l.processes.items) l.events.processes ≡ changed_each (woken_in l.time) l.processes.items l.fn.events.processes;
  assigns : l.events.assigns ≡ l.fn.events.assigns;
}
