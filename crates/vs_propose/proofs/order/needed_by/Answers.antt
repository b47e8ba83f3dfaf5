use Rattle.vs_propose.proofs.Gathered.{nothing, wired_of, none_gathered, one_gathered, all_gathered}
use Rattle.vs_propose.proofs.order.needed_by.Goals as goal

pub loop-range-init : goal.loop-range-init
loop-range-init c = none_gathered c.args.design.now c.args.reader c.needs-ranges.result.now c.new-needed.result.items c.new-needed.ensures.items

pub loop-range-preserved : goal.loop-range-preserved
loop-range-preserved c =
    let is_of = wired_of c.args.design.now c.args.cones.now c.requires.still c.requires.cones in
    one_gathered c.args.design.now c.args.reader c.needs-ranges.result.now c.writers-row.result.now c.loop-range.range-index c.loop-range.needed.items
    c.put_needed.new.needed.items _ c.requires.still (record { are = c.needs-ranges.ensures c.args.design.now nothing is_of }) c.loop-range-test.true
    (record { are = c.writers-row.ensures c.args.design.now nothing is_of }) c.in_ok-put_needed.ensures c.loop-range.invariant

pub returns : goal.returns
returns c =
    all_gathered c.args.design.now c.args.reader c.needs-ranges.result.now c.loop-range.range-index c.loop-range.needed.items c.loop-range-test.false
    (record { are = c.needs-ranges.ensures c.args.design.now nothing (wired_of c.args.design.now c.args.cones.now c.requires.still c.requires.cones) })
    c.loop-range.invariant
