use Rattle.std.proofs.Common.{get_or, arith}
use Rattle.vs_design.specs.vs_logic4.proofs.Basics.{get_or_same as again}
use Rattle.vs_elaborate.proofs.CheckLemmas.{check_more, check_shared, written_back, ranges_within, same_clones}
use Rattle.vs_elaborate.proofs.source.check_drivers.Goals as goal

pub mark_ranges-requires-clause-within : goal.mark_ranges-requires-clause-within
mark_ranges-requires-clause-within c =
    rw c.deref.ensures.value (ranges_within c.args.signals.now c.args.assigns.now c.loop-assign.assign-index c.assign-item.result c.in_ok-ranges.ranges.items (omega arith) c.assign-item.is c.in_ok-ranges.ensures c.requires.within)

pub returns-in-Some-clause-one : goal.returns-in-Some-clause-one
returns-in-Some-clause-one c =
    let marks = rw (c.deref.ensures.value, c.deref_mut.ensures.value, c.in-Some.is) at c.mark_ranges.ensures in
    check_shared c.args.signals.now c.args.assigns.now c.loop-assign.assign-index c.assign-item.result c.in_ok-ranges.ranges.items c.loop-assign.marks.items c.mark_ranges.new.marks c.in-Some.number (get_or c.args.signals.now c.in-Some.number c.index-signals-number.result) c.in_ok-path.path.items (omega arith) c.assign-item.is c.in_ok-ranges.ensures c.loop-assign.invariant marks (again c.args.signals.now c.in-Some.number c.index-signals-number.result marks.0) (same_clones _ _ c.in_ok-path.ensures.cases.0)

pub loop-assign-preserved : goal.loop-assign-preserved
loop-assign-preserved c =
    let marks = rw (c.deref.ensures.value, c.deref_mut.ensures.value, c.in_default.is) at c.mark_ranges.ensures in
    written_back c.args.signals.now _ _ c.loop-assign.marks.items c.mark_ranges.new.marks c.loop-assign.marks.len c.loop-assign.marks.ok.0 c.loop-assign.invariant
    (check_more c.args.signals.now c.args.assigns.now c.loop-assign.assign-index c.assign-item.result c.in_ok-ranges.ranges.items c.loop-assign.marks.items c.mark_ranges.new.marks (omega arith) c.assign-item.is c.in_ok-ranges.ensures c.loop-assign.invariant marks)
