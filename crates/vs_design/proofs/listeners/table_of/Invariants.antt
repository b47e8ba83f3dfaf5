use Rattle.std.proofs.Common.{◌≡◌, drop}
use Rattle.vs_design.specs.Tables.{rows, heard, empty_rows}
use Rattle.vs_design.proofs.listeners.table_of.Given as goal

abbrev pub invariant-loop-i : goal.invariant-loop-i
invariant-loop-i l = heard l.i (drop l.i l.processes) (rows l.table.items) ≡ heard 0 l.processes (empty_rows l.signals)
