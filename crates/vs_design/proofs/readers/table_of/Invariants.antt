use Rattle.std.proofs.Common.{◌≡◌, drop}
use Rattle.vs_design.specs.Tables.{rows, tabled, empty_rows}
use Rattle.vs_design.proofs.readers.table_of.Given as goal

abbrev pub invariant-loop-i : goal.invariant-loop-i
invariant-loop-i l = tabled l.i (drop l.i l.assigns) (rows l.table.items) ≡ tabled 0 l.assigns (empty_rows l.signals)
