use Rattle.std.proofs.Common.{◌≡◌, ◌++◌, take, drop, length}
use Rattle.vs_time_wheel.specs.Bag.{oldest_at, without_oldest}
use Rattle.vs_time_wheel.proofs.list.take.Given as goal

-- none of the first i is due at the time
abbrev pub invariant-loop-i : goal.invariant-loop-i
invariant-loop-i g l = record {
  same : l.items.items ≡ l.fn.items.items;
  within : l.i-end ≡ length l.items.items;
  none : oldest_at l.time l.items.items ≡ oldest_at l.time (drop l.i l.items.items);
  kept : without_oldest l.time l.items.items ≡ take l.i l.items.items ++ without_oldest l.time (drop l.i l.items.items);
}
