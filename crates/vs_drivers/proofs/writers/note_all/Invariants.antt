use Rattle.std.proofs.Common.{◌≡◌, drop}
use Rattle.vs_drivers.specs.Walks.{all_noted}
use Rattle.vs_drivers.proofs.writers.note_all.Given as goal

abbrev pub invariant-loop-range : goal.invariant-loop-range
invariant-loop-range l = all_noted l.driver (drop l.range-index l.ranges) l.table ≡ all_noted l.driver l.ranges l.fn.table
