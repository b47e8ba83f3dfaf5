use Rattle.std.proofs.Common.{take}
use Rattle.vs_design.specs.WellFormed.{driven}
use Rattle.vs_elaborate.specs.Marks.{Marks}
use Rattle.vs_elaborate.proofs.source.check_drivers.Given as goal

abbrev pub invariant-loop-assign : goal.invariant-loop-assign
invariant-loop-assign l = Marks l.signals (driven (take l.assign-index l.assigns)) l.marks.items
