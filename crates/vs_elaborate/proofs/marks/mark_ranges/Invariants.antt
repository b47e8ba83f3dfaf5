use Rattle.std.proofs.Common.{◌≡◌, ◌*◌, length, take, None}
use Rattle.vs_elaborate.specs.Marks.{MarksAll}
use Rattle.vs_elaborate.proofs.marks.mark_ranges.Given as goal

abbrev pub invariant-loop-range : goal.invariant-loop-range
invariant-loop-range l = (length l.marks ≡ 64 * length l.signals) × MarksAll l.signals (take l.range-index l.ranges) l.initial.marks l.marks None
