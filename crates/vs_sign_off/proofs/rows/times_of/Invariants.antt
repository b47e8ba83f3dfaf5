use Rattle.std.proofs.Common.{◌≡◌, ◌+◌, ◌≤◌, drop}
use Rattle.vs_sign_off.specs.Rows.{rows, rows_from, times}
use Rattle.vs_sign_off.proofs.rows.times_of.Given as goal

abbrev pub invariant-loop-byte : goal.invariant-loop-byte
invariant-loop-byte l = record {
  so_far : l.count + times l.row (rows_from l.begun.items (drop l.byte-index l.text)) ≡ times l.row (rows l.text);
  most : l.count ≤ l.byte-index;
}
