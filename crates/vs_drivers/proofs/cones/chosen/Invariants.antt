use Rattle.std.proofs.Common.{take}
use Rattle.vs_drivers.proofs.ConeLemmas.{AreChosen}
use Rattle.vs_drivers.proofs.cones.chosen.Given as goal

abbrev pub invariant-loop-u : goal.invariant-loop-u
invariant-loop-u l = AreChosen (take l.u-index l.among) l.marks l.all.items
