-- Where a run stands, and what it keeps.
use Rattle.std.specs.Prelude.{ℕ, ◌≡◌, ◌<◌, ◌≤◌, ◌^◌, Bool, false, Option, Some, None, List, ◌++◌, length}
use Rattle.vs_design.specs.Parts.{Parts}
use Rattle.vs_design.specs.Traces.{Slot}
use Rattle.vs_run_active.specs.vs_process.specs.declared.moves.Move.TheVariants.{EndSlot}
use Rattle.vs_run_active.specs.vs_process.specs.Executions.{ended_slot}
use Rattle.vs_run_active.specs.vs_process.specs.States.{State}
use Rattle.vs_vcd_writing.specs.Progress.{HasWritten, Progress}
use Rattle.vs_run_steps.specs.Runs.{IsRunOf, Running, marks_of, state_of}
use Rattle.vs_run_steps.specs.Points.{Point, point}
use Rattle.vs_run_steps.specs.Recording.{CoversNoted, HasNoted, HasRoom}
use Rattle.vs_run_steps.specs.Slots.{AppendsSlots, AppendsSlotsPart}
use Rattle.vs_run_steps.specs.Turns.{AllTurned, AllTurnedPart, GoesOn}

-- where a run stands: its design, of each process whether it is a combinational block, its state, the block that has taken a step since its control,
-- where there is one, whether a policy chooses, and the writer of its dump, where it has one
pub record Snapshot : Type 0 where
  pub design : Parts
  pub blocks : List Bool
  pub running : Running
  pub inside : Option ℕ
  pub chooses : Bool
  pub writer : Option Progress

-- these slots are recorded, where slots are
abbrev pub HasKept : Option Progress → Parts → List Slot → Type 0
HasKept None d slots = Unit {0}
HasKept (Some w) d slots = HasWritten w d slots

-- the slots that have ended are recorded, and the marks have room and cover what changed since
pub record IsKept (d : Parts) (r : Running) (writer : Option Progress) : Type 0 where
  pub slots : List Slot
  pub kept : HasKept writer d slots
  pub covers : CoversNoted (marks_of r) writer (state_of r).store
  pub room : HasRoom d (marks_of r) writer
  pub few : length (marks_of r) ≤ 2 ^ 57

-- the slot that ends in a state was recorded, where slots are
pub record IsRecorded (old new : Running) (writer writer' : Option Progress) (vcd vcd' : Option (List ℕ)) : Type 0 where
  pub recording : (d : Parts) → IsKept d old writer → IsKept d new writer'
  pub written : (d : Parts) (before : List Slot) → HasNoted writer vcd d before → HasNoted writer' vcd' d (before ++ ended_slot EndSlot (state_of old))
  pub bytes : (d : Parts) (before : List Slot) → HasNoted writer vcd d before → AppendsSlots vcd vcd' d before (ended_slot EndSlot (state_of old))

-- a beginning of it was written
abbrev pub IsRecordedPart : State → Option Progress → Option (List ℕ) → Option (List ℕ) → Type 0
IsRecordedPart s writer vcd vcd' = (d : Parts) (before : List Slot) → HasNoted writer vcd d before → AppendsSlotsPart vcd vcd' d before (ended_slot EndSlot s)

-- a run stands so
pub record IsSnapshot (s : Snapshot) : Type 0 where
  pub run : IsRunOf s.design s.running
  pub recording : IsKept s.design s.running s.writer
  pub goes_on : GoesOn s.inside (state_of s.running)
  pub first : s.chooses ≡ false → s.inside ≡ None

-- where it stands, with the known bytes of the sink of the dump and of that of the lines
abbrev pub point_of : Snapshot → Option ℕ → Option (List ℕ) → Option (List ℕ) → Point
point_of s inside vcd lines = point inside (state_of s.running) s.writer vcd lines

-- moves of an event were made, so many of at most so many; where fewer were made, the run tells the block that has left its control
pub record HasMoved (limit taken : ℕ) (s t : Snapshot) (old new : Option (List ℕ)) : Type 0 where
  pub within : taken ≤ limit
  pub going : (state_of t.running).over ≡ false
  pub time : (state_of t.running).time ≡ (state_of s.running).time
  pub inside : Option ℕ
  pub told : taken < limit → inside ≡ t.inside
  pub turned : (vcd : Option (List ℕ)) → AllTurned taken s.blocks (point_of s s.inside vcd old) (point_of t inside vcd new)

-- fewer than so many, and then one that failed
abbrev pub HasMovedPart : ℕ → Snapshot → Option (List ℕ) → Option (List ℕ) → Type 0
HasMovedPart limit s old new = (vcd : Option (List ℕ)) → AllTurnedPart limit s.blocks (point_of s s.inside vcd old) vcd new
