use Rattle.vs_time_wheel.proofs.Bags.{SameBag-trans, SameBag-from_eq}
use Rattle.vs_time_wheel.proofs.Wound.{loose_moved, bag_moved, bag_unchanged}
use Rattle.vs_time_wheel.proofs.calendar.bring_near.Goals as goal

pub loop-time-preserved : goal.loop-time-preserved
loop-time-preserved g c =
    let h = c.in-Some.ensures.first in
    let loose = c.loop-time.invariant.loose in
    record {
      loose = rw c.put.ensures (loose_moved c.loop-time.rotation c.loop-time.later c.take_near.new.later c.args.now c.in-Some.time c.in-Some.chain loose h.0 h.1 c.in-Some.ensures.small h.2 h.3);
      same_bag = rw c.put.ensures (SameBag-trans (bag_moved c.loop-time.rotation c.loop-time.later c.take_near.new.later c.args.now c.in-Some.time c.in-Some.chain loose h.0 h.1 c.in-Some.ensures.small h.2 h.3) c.loop-time.invariant.same_bag);
    }

pub returns-clause-same_bag : goal.returns-clause-same_bag
returns-clause-same_bag g c =
    SameBag-trans (SameBag-from_eq (bag_unchanged c.loop-time.rotation c.loop-time.later c.take_near.new.later c.args.now c.in_default.ensures.first.1)) c.loop-time.invariant.same_bag
