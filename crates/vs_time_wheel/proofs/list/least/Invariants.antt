use Rattle.std.proofs.Common.{◌≡◌, drop}
use Rattle.vs_time_wheel.specs.Bag.{least_time}
use Rattle.vs_time_wheel.proofs.Bags.{least_from}
use Rattle.vs_time_wheel.proofs.list.least.Given as goal

-- the least so far, taken on over what is left, is the least of all
abbrev pub invariant-loop-item : goal.invariant-loop-item
invariant-loop-item g l = least_from l.least (drop l.item-index l.items) ≡ least_time l.items
