use Rattle.std.proofs.Common.{◌≤◌}
use Rattle.vs_elaborate.specs.Marks.{IsMarked}
use Rattle.vs_elaborate.proofs.marks.mark.Given as goal

abbrev pub invariant-loop-place : goal.invariant-loop-place
invariant-loop-place l = (l.from ≤ l.place) × IsMarked l.from l.place l.initial.marks l.marks l.again
