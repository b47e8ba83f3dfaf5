use Rattle.std.proofs.Common.{◌≡◌, drop}
use Rattle.vs_run_active.specs.ProcessPlaces.{roused_in}
use Rattle.vs_kernel.specs.Leaving.{changed_each}
use Rattle.vs_kernel.proofs.moves.rouse_each.Given as goal

abbrev pub invariant-loop-process : goal.invariant-loop-process
invariant-loop-process l = record {
  processes : changed_each roused_in (drop l.process-index l.processes.items) l.events.processes ≡ changed_each roused_in l.processes.items l.fn.events.processes;
  assigns : l.events.assigns ≡ l.fn.events.assigns;
}
