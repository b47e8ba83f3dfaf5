use Rattle.vs_drivers.proofs.DriverLemmas.{freed_more, freed_all}
use Rattle.vs_drivers.proofs.drivers.Drivers.mark_all.Goals as goal

pub loop-range-preserved : goal.loop-range-preserved
loop-range-preserved c =
    freed_more c.args.self.now c.args.marks.now.items c.loop-range.marks.items c.mark_one.new.marks.items c.args.ranges.now c.loop-range.range-index _ c.loop-range-test.true
    c.loop-range.invariant c.mark_one.ensures.len c.mark_one.ensures.exact

pub returns : goal.returns
returns c =
    freed_all c.args.self.now c.args.marks.now.items c.loop-range.marks.items c.args.ranges.now c.loop-range.range-index c.loop-range-test.false c.loop-range.invariant
