use Rattle.std.proofs.Common.{◌≡◌, ◌++◌, take}
use Rattle.vs_vcd_writing.specs.Kept.{kept_changes, first_change}
use Rattle.vs_vcd_writing.proofs.changes.list_values.Given as goal

abbrev pub invariant-loop-signal : goal.invariant-loop-signal
invariant-loop-signal l = l.changes.items ≡ l.initial.changes.items ++ kept_changes (first_change l.store) 0 (take l.signal l.kept)
