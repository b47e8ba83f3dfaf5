use Rattle.std.proofs.Common.{◌≡◌}
use Rattle.vs_design.specs.Tables.{rows, empty_rows}
use Rattle.vs_run_active.proofs.lists.empty_lists.Given as goal

abbrev pub invariant-loop : goal.invariant-loop
invariant-loop g l = rows l.lists.items ≡ empty_rows l.counter
