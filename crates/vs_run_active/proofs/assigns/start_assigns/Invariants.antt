use Rattle.std.proofs.Common.{◌≡◌, map, take}
use Rattle.vs_run_active.specs.vs_process.specs.States.{start_assign}
use Rattle.vs_run_active.proofs.assigns.start_assigns.Given as goal

abbrev pub invariant-loop-assign : goal.invariant-loop-assign
invariant-loop-assign l = l.all.items ≡ map start_assign (take l.assign-index l.assigns)
