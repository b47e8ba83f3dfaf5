use Rattle.std.proofs.Common.{◌≡◌, ◌≤◌, ◌++◌, drop}
use Rattle.vs_vcd_writing.specs.CodeTables.{code_table}
use Rattle.vs_vcd_writing.proofs.codes.code_numbers.Given as goal

abbrev pub invariant-loop-i : goal.invariant-loop-i
invariant-loop-i l = record {
  most : l.next ≤ l.i;
  rest : l.table.items ++ code_table l.next (drop l.i l.signals) ≡ code_table 0 l.signals;
}
