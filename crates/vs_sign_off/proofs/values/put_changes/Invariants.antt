use Rattle.std.proofs.Common.{◌≡◌, drop}
use Rattle.vs_vcd_reader.specs.Layout.{written}
use Rattle.vs_sign_off.proofs.values.put_changes.Given as goal

abbrev pub invariant-loop-change : goal.invariant-loop-change
invariant-loop-change l = written l.values.items (drop l.change-index l.changes) ≡ written l.fn.values.items l.changes
