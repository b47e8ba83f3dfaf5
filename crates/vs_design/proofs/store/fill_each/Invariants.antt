use Rattle.std.proofs.Common.{◌≡◌, drop}
use Rattle.vs_design.specs.Drivers.{driven_by}
use Rattle.vs_design.proofs.store.fill_each.Given as goal

abbrev pub invariant-loop-aim : goal.invariant-loop-aim
invariant-loop-aim l = driven_by (drop l.aim-index l.aims) l.words.items ≡ driven_by l.aims l.fn.words.items
