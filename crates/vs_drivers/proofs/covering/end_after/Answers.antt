use Rattle.std.proofs.Common.{sym, ◌∙◌}
use Rattle.vs_drivers.proofs.RangeBits.{ends, none_more, none_has}
use Rattle.vs_drivers.proofs.covering.end_after.Goals as goal

pub returns-then-has : goal.returns-then-has
returns-then-has c =
    ends c.args.ranges.now c.loop-range.range-index _ c.args.signal c.args.word c.args.width c.args.place c.end_of.result c.loop-range-test.true c.requires
    (sym c.has.ensures ∙ c.if-has.true) c.end_of.ensures

pub loop-range-preserved : goal.loop-range-preserved
loop-range-preserved c =
    none_more c.args.ranges.now c.loop-range.range-index _ c.args.signal c.args.word c.args.place c.loop-range-test.true c.loop-range.invariant
    (sym c.has.ensures ∙ c.if-has.false)

pub returns : goal.returns
returns c = none_has c.args.ranges.now c.loop-range.range-index c.args.signal c.args.word c.args.place c.loop-range-test.false c.loop-range.invariant
