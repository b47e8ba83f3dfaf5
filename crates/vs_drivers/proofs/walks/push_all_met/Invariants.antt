use Rattle.std.proofs.Common.{◌≡◌, ◌++◌, drop}
use Rattle.vs_drivers.specs.Walks.{all_met}
use Rattle.vs_drivers.proofs.walks.push_all_met.Given as goal

abbrev pub invariant-loop-range : goal.invariant-loop-range
invariant-loop-range l =
    l.out.items ++ all_met l.signals l.writers (drop l.range-index l.ranges) ≡ l.fn.out.items ++ all_met l.signals l.writers l.ranges
