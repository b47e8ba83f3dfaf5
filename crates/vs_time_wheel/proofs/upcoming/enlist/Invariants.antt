use Rattle.std.proofs.Common.{◌≡◌, ◌≤◌, ◌∷◌, ◌++◌, length, take, drop}
use Rattle.vs_time_wheel.proofs.ShortList.{IsUpTo}
use Rattle.vs_time_wheel.proofs.upcoming.enlist.Given as goal

-- the event stands at its place so far, and those that it has passed are due no later
abbrev pub invariant-loop-place : goal.invariant-loop-place
invariant-loop-place g l = record {
  within : l.place ≤ length l.fn.list.items;
  same : l.list.items ≡ take l.place l.fn.list.items ++ record { time = l.fn.time; event = l.fn.event } ∷ drop l.place l.fn.list.items;
  passed : IsUpTo l.fn.time (drop l.place l.fn.list.items);
}

abbrev pub decreases-loop-place : goal.decreases-loop-place
decreases-loop-place g l = l.place
