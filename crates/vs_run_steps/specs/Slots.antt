-- What slots add to the value change dump of a run.
use Rattle.std.specs.Prelude.{ℕ, ◌≡◌, Option, List, ◌++◌}
use Rattle.std.specs.Io.KnownBytes.{Appends}
use Rattle.vs_design.specs.Parts.{Parts}
use Rattle.vs_design.specs.Traces.{Slot}
use Rattle.vs_vcd_writing.specs.Sinks.{AppendsPart}
use Rattle.vs_vcd_writing.specs.Text.{vcd_slots}

-- what slots add to a value change dump was appended to the known bytes
abbrev pub AppendsSlots : Option (List ℕ) → Option (List ℕ) → Parts → List Slot → List Slot → Type 0
AppendsSlots old new d before more =
    (piece : List ℕ) × (vcd_slots d (before ++ more) ≡ vcd_slots d before ++ piece) × Appends old new piece

-- a beginning of what slots add to a value change dump was appended to the known bytes
abbrev pub AppendsSlotsPart : Option (List ℕ) → Option (List ℕ) → Parts → List Slot → List Slot → Type 0
AppendsSlotsPart old new d before more =
    (piece : List ℕ) × (vcd_slots d (before ++ more) ≡ vcd_slots d before ++ piece) × AppendsPart old new piece
