-- What the value change dump of a run says.
use Rattle.std.specs.Prelude.{◌≡◌, ℕ, ◌<◌, ◌^◌, true, List, [], IfSome, map, if◌then◌else◌}
use Rattle.vs_design.specs.Parts.{Parts}
use Rattle.vs_process.specs.declared.moves.Grain.{Grain}
use Rattle.vs_process.specs.declared.moves.Move.{Move}
use Rattle.vs_process.specs.Executions.{after, is_complete, Legal, slots, trace}
use Rattle.vs_kernel.specs.vs_vcd_writing.specs.Codes.{shown}
use Rattle.vs_kernel.specs.vs_vcd_writing.specs.Shown.{slot_at}
use Rattle.vs_kernel.specs.vs_vcd_writing.specs.Values.{shown_value}
use Rattle.vs_vcd_reader.specs.declared.dump.Dump.{Dump}
use Rattle.vs_vcd_reader.specs.declared.fault.VcdFault.{VcdFault}
use Rattle.vs_vcd_reader.specs.declared.fault.VcdFault.TheVariants.{Memory}
use Rattle.vs_vcd_reader.specs.Faults.{IsFault}
use Rattle.vs_vcd_reader.specs.Layout.{IsDump, IsLayout}
use Rattle.vs_vcd_reader.specs.Plain.{PlainDump, plain_dump}
use Rattle.vs_vcd_reader.specs.Conditions.{IsOutlined}
use Rattle.vs_vcd_reader.specs.Said.{dump_begun, dump_of}
use Rattle.vs_vcd_reader.specs.Values.{values_at}
use Rattle.vs_kernel.specs.Runs.{StopsAt, text_so_far}

-- what the dump of an execution so far says
abbrev pub dump_so_far : Parts → List Move → ℕ → PlainDump
dump_so_far d moves until =
    if is_complete until (after d moves) then dump_of d (trace d moves until) until else dump_begun d (slots d moves)

-- the dump of an execution so far is of the layout, and says this; at each time its variables have the values that the signals have at the end of
-- the last slot at or before that time, and whatever `read` answers of it is this dump, and no fault of the text (clause 18.2)
pub record ReadsBack (d : Parts) (moves : List Move) (until : ℕ) : Type 0 where
  pub layout : IsLayout (text_so_far d moves until) (dump_so_far d moves until)
  pub values :
      (time : ℕ) → IfSome (slot_at time (slots d moves))
      (λ s. values_at time (dump_so_far d moves until).moments ≡ map (shown_value s.store) (shown d))
  pub read : (x : Dump) → IsDump (text_so_far d moves until) x → plain_dump x ≡ dump_so_far d moves until
  pub whole : (fault : VcdFault) → (fault ≡ Memory → ⊥) → IsFault (text_so_far d moves until) fault → ⊥

-- the dump of each execution that stops at a moment reads back, once a slot has ended
abbrev pub DumpsReadBack : Type 0
DumpsReadBack = (grain : Grain) (d : Parts) (moves : List Move) (until : ℕ) → IsOutlined d → until < 2 ^ 62 → Legal grain d moves →
    StopsAt until d moves → (slots d moves ≡ [] → ⊥) → ReadsBack d moves until

-- of an execution that is complete to a moment a slot has ended
abbrev pub CompleteRunsEndSlots : Type 0
CompleteRunsEndSlots = (grain : Grain) (d : Parts) (moves : List Move) (until : ℕ) → Legal grain d moves →
    is_complete until (after d moves) ≡ true → slots d moves ≡ [] → ⊥
