use Rattle.std.proofs.Common.{length, ◌-◌, ◌+◌}
use Rattle.vs_rules_of_starts.specs.Order.{IsGrown}
use Rattle.vs_rules_of_starts.proofs.order.grow.Given as goal

abbrev pub invariant-loop-table : goal.invariant-loop-table
invariant-loop-table l = IsGrown l.none l.fn.table.items l.table.items

abbrev pub decreases-loop-table : goal.decreases-loop-table
decreases-loop-table l = (l.place + 1) - length l.table.items
