use Rattle.std.specs.BTreeMap.{btree_map_len}
use Rattle.vs_time_wheel.specs.Bag.{SameBag}
use Rattle.vs_time_wheel.specs.Window.{calendar_bag, IsLoose}
use Rattle.vs_time_wheel.proofs.calendar.bring_near.Given as goal

-- events only move
abbrev pub invariant-loop-time : goal.invariant-loop-time
invariant-loop-time g l = record {
  loose : IsLoose l.rotation l.later l.now;
  same_bag : SameBag (calendar_bag l.rotation l.later l.now) (calendar_bag l.fn.rotation l.fn.later l.now);
}

abbrev pub decreases-loop-time : goal.decreases-loop-time
decreases-loop-time g l = btree_map_len l.later
