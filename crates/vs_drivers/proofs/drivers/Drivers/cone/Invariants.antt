use Rattle.vs_drivers.proofs.DriverLemmas.{AreNamed}
use Rattle.vs_drivers.proofs.drivers.Drivers.cone.Given as goal

abbrev pub invariant-loop-n : goal.invariant-loop-n
invariant-loop-n l = AreNamed l.self l.ranges l.n l.marks.items
