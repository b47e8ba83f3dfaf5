use Rattle.std.proofs.Common.{◌≡◌}
use Rattle.vs_design.specs.Tables.{rows, empty_rows}
use Rattle.vs_design.proofs.readers.empty_table.Given as goal

abbrev pub invariant-loop : goal.invariant-loop
invariant-loop g l = rows l.table.items ≡ empty_rows l.counter
