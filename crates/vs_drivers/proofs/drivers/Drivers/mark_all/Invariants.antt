use Rattle.std.proofs.Common.{take}
use Rattle.vs_drivers.specs.Walks.{AreFreed}
use Rattle.vs_drivers.proofs.drivers.Drivers.mark_all.Given as goal

abbrev pub invariant-loop-range : goal.invariant-loop-range
invariant-loop-range l = AreFreed l.self l.fn.marks.items (take l.range-index l.ranges) l.marks.items
