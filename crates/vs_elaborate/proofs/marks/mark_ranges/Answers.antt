use Rattle.vs_elaborate.proofs.MarkLemmas.{ranges_shared}
use Rattle.vs_elaborate.proofs.marks.mark_ranges.Goals as goal

pub returns-then-mark_range : goal.returns-then-mark_range
returns-then-mark_range c = ranges_shared c.args.signals.now c.args.ranges.now c.loop-range.range-index _ c.args.marks.now c.loop-range.marks c.mark_range.new.marks c.loop-range-test.true c.requires.within c.loop-range.invariant.1 (rw c.if-mark_range.true at c.mark_range.ensures)
