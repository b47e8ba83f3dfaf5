use Rattle.std.proofs.Common.{◌≡◌}
use Rattle.vs_graph.specs.Rows.{rows, empty_rows}
use Rattle.vs_graph.proofs.rows.empty_table.Given as goal

abbrev pub invariant-loop : goal.invariant-loop
invariant-loop g l = rows l.table.items ≡ empty_rows l.counter
