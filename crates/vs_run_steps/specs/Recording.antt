-- How far a run has recorded its value change dump.
use Rattle.std.specs.Prelude.{◌≡◌, ◌<◌, ◌≤◌, ◌*◌, ◌^◌, ℕ, Option, Some, None, List, length}
use Rattle.vs_design.specs.Parts.{Parts}
use Rattle.vs_design.specs.Stores.{Store}
use Rattle.vs_design.specs.Traces.{Slot}
use Rattle.vs_vcd_writing.specs.Progress.{Covers, HasWritten, Progress}

-- these slots are recorded in the known bytes of a sink: written, or nothing is, where no bytes are known
abbrev pub HasNoted : Option Progress → Option (List ℕ) → Parts → List Slot → Type 0
HasNoted None known d slots = known ≡ None
HasNoted (Some w) known d slots = HasWritten w d slots

-- the marks cover what changed, where slots are written
abbrev pub CoversNoted : List ℕ → Option Progress → Store → Type 0
CoversNoted marks None store = Unit {0}
CoversNoted marks (Some w) store = Covers marks w store

-- the marks have room for the signals of a design, where slots are written
abbrev pub HasRoom : Parts → List ℕ → Option Progress → Type 0
HasRoom d marks None = Unit {0}
HasRoom d marks (Some w) = length d.signals < 512 * length marks

-- a run of a design records its slots: those that have ended are recorded, and the marks have room and cover what changed since
pub record IsRecording (d : Parts) (marks : List ℕ) (writer : Option Progress) (known : Option (List ℕ)) (store : Store) : Type 0 where
  pub slots : List Slot
  pub noted : HasNoted writer known d slots
  pub covers : CoversNoted marks writer store
  pub room : HasRoom d marks writer
  pub few : length marks ≤ 2 ^ 57
