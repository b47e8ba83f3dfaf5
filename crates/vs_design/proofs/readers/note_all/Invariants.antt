use Rattle.std.proofs.Common.{◌≡◌, drop}
use Rattle.vs_design.specs.Tables.{rows, all_noted}
use Rattle.vs_design.proofs.readers.note_all.Given as goal

abbrev pub invariant-loop-range : goal.invariant-loop-range
invariant-loop-range l = all_noted l.assign (drop l.range-index l.ranges) (rows l.table.items) ≡ all_noted l.assign l.ranges (rows l.fn.table.items)
