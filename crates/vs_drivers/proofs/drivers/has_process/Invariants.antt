use Rattle.vs_drivers.proofs.DriverLemmas.{NoneBefore}
use Rattle.vs_drivers.proofs.drivers.has_process.Given as goal

abbrev pub invariant-loop-w : goal.invariant-loop-w
invariant-loop-w l = NoneBefore l.row l.first l.w-index
