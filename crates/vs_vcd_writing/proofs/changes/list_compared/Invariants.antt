use Rattle.std.proofs.Common.{◌≡◌, ℕ, ◌++◌, List, take}
use Rattle.vs_design.specs.Stores.{Store}
use Rattle.vs_vcd_writing.specs.declared.kept.Kept.{Kept}
use Rattle.vs_vcd_writing.specs.declared.kept.DumpChange.{DumpChange}
use Rattle.vs_vcd_writing.specs.Kept.{kept_changes, AreLater}
use Rattle.vs_vcd_writing.specs.Rooms.{AreCompared}
use Rattle.vs_vcd_writing.proofs.changes.list_compared.Given as goal

abbrev pub invariant-loop-signal : goal.invariant-loop-signal
invariant-loop-signal l =
    (start : List DumpChange) (by : ℕ → Kept → List DumpChange) (store : Store) → AreCompared l.room l.kept store l.from l.to → AreLater by store l.from l.to
    → l.initial.changes.items ≡ start ++ kept_changes by 0 (take l.from l.kept)
    → l.changes.items ≡ start ++ kept_changes by 0 (take l.signal l.kept)
