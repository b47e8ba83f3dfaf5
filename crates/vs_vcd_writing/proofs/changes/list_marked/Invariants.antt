use Rattle.std.proofs.Common.{◌≡◌, suc, ◌*◌, ◌-◌, ◌++◌, false, length, take}
use Rattle.vs_vcd_writing.specs.Kept.{kept_changes, chosen_change}
use Rattle.vs_vcd_writing.specs.Rooms.{IsRoom}
use Rattle.vs_vcd_writing.proofs.changes.list_marked.Given as goal

abbrev pub invariant-loop-from : goal.invariant-loop-from
invariant-loop-from l = record {
  room : IsRoom l.room (length l.kept);
  changes : l.changes.items ≡ l.initial.changes.items ++ kept_changes (chosen_change false l.marks l.store) 0 (take (8 * l.from) l.kept);
}

abbrev pub decreases-loop-from : goal.decreases-loop-from
decreases-loop-from l = suc (length l.kept) - l.from
