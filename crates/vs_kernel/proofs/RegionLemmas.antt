-- The moves between events.
use Rattle.std.proofs.Common.{◌≡◌, ℕ, Bool, true, Option, None, List, ◌++◌, refl}
use Rattle.std.specs.Io.KnownBytes.{Appends}
use Rattle.vs_design.specs.Parts.{Parts}
use Rattle.vs_design.specs.Traces.{Slot}
use Rattle.vs_run_active.specs.vs_process.specs.declared.moves.Move.TheVariants.{Rouse, Activate, EndSlot}
use Rattle.vs_run_active.specs.vs_process.specs.Executions.{apply, ended_slot, is_enabled, strobe_lines}
use Rattle.vs_run_active.specs.vs_process.specs.States.{State}
use Rattle.vs_vcd_writing.specs.Progress.{Progress}
use Rattle.vs_vcd_writing.specs.Sinks.{AppendsPart}
use Rattle.vs_run_steps.specs.Points.{point}
use Rattle.vs_run_steps.specs.Prints.{lines_text}
use Rattle.vs_run_steps.specs.Recording.{HasNoted}
use Rattle.vs_run_steps.specs.Slots.{AppendsSlots, AppendsSlotsPart}
use Rattle.vs_run_steps.specs.Turns.{Turned, TurnedPart}
use Rattle.vs_run_steps.proofs.Appending.{append_none}
use Rattle.vs_run_steps.proofs.TurnsLemmas.{one_turned}

rouse_inner : Rouse ≡ EndSlot → ⊥
rouse_inner e = cc

activate_inner : Activate ≡ EndSlot → ⊥
activate_inner e = cc

-- the inactive processes go on
pub rouse_turned : (blocks : List Bool) (s t : State) (writer : Option Progress) (vcd lines : Option (List ℕ)) → is_enabled s Rouse ≡ true → t ≡ apply Rouse s →
    Turned blocks (point None s writer vcd lines) (point None t writer vcd lines)
rouse_turned blocks s t writer vcd lines enabled made = one_turned blocks None s t writer vcd lines lines Rouse rouse_inner enabled refl made (append_none lines)

-- the updates are activated
pub activate_turned : (blocks : List Bool) (s t : State) (writer : Option Progress) (vcd lines : Option (List ℕ)) → is_enabled s Activate ≡ true → t ≡ apply Activate s →
    Turned blocks (point None s writer vcd lines) (point None t writer vcd lines)
activate_turned blocks s t writer vcd lines enabled made = one_turned blocks None s t writer vcd lines lines Activate activate_inner enabled refl made (append_none lines)

-- the slot ends
pub ended_turned : (blocks : List Bool) (s t : State) (writer writer' : Option Progress) (vcd vcd' lines lines' : Option (List ℕ)) → is_enabled s EndSlot ≡ true → t ≡ apply EndSlot s →
    ((d : Parts) (before : List Slot) → HasNoted writer vcd d before → HasNoted writer' vcd' d (before ++ ended_slot EndSlot s)) →
    ((d : Parts) (before : List Slot) → HasNoted writer vcd d before → AppendsSlots vcd vcd' d before (ended_slot EndSlot s)) → Appends lines lines' (lines_text (strobe_lines s)) →
    Turned blocks (point None s writer vcd lines) (point None t writer' vcd' lines')
ended_turned blocks s t writer writer' vcd vcd' lines lines' enabled made written text printed = record {
  choice = EndSlot;
  enabled = enabled;
  free = refl;
  made = made;
  told = refl;
  written = written;
  text = text;
  lines = printed;
}

-- it was written in part
pub ended_part : (s : State) (writer : Option Progress) (vcd vcd' lines lines' : Option (List ℕ)) → is_enabled s EndSlot ≡ true →
    ((d : Parts) (before : List Slot) → HasNoted writer vcd d before → AppendsSlotsPart vcd vcd' d before (ended_slot EndSlot s)) → AppendsPart lines lines' (lines_text (strobe_lines s)) →
    TurnedPart (point None s writer vcd lines) vcd' lines'
ended_part s writer vcd vcd' lines lines' enabled text printed = record { choice = EndSlot; enabled = enabled; free = refl; text = text; lines = printed }
