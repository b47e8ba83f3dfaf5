-- What the value change dump of a run shows.
use Rattle.std.specs.Prelude.{ℕ, ◌<◌, ◌^◌, List, IfSome}
use Rattle.std.specs.List.{Contains}
use Rattle.vs_design.specs.OneLine.{HasNamesOfOneLine}
use Rattle.vs_design.specs.Parts.{Parts}
use Rattle.vs_run_regions.specs.vs_process.specs.declared.moves.Grain.{Grain}
use Rattle.vs_run_regions.specs.vs_process.specs.declared.moves.Move.{Move}
use Rattle.vs_run_regions.specs.vs_process.specs.Executions.{Legal, slots}
use Rattle.vs_vcd_writing.specs.Codes.{shown}
use Rattle.vs_vcd_writing.specs.Shown.{Shows, slot_at}
use Rattle.vs_vcd_writing.specs.Values.{shown_value}
use Rattle.vs_kernel.specs.Runs.{StopsAt, text_so_far}

-- the value change dump of an execution so far shows, of each signal that is no array, at each time, its value at the end of the last slot at or
-- before that time (clause 18.2)
abbrev pub ShowsSlotEnds : Parts → List Move → ℕ → Type 0
ShowsSlotEnds d moves until = (time signal : ℕ) → Contains (shown d) signal →
    IfSome (slot_at time (slots d moves)) (λ s. Shows (text_so_far d moves until) d time signal (shown_value s.store signal))

-- the value change dump of each execution that stops at a moment shows these values, where no name of the design holds a line feed
abbrev pub DumpsShow : Type 0
DumpsShow = (grain : Grain) (d : Parts) (moves : List Move) (until : ℕ) → HasNamesOfOneLine d → until < 2 ^ 62 → Legal grain d moves →
    StopsAt until d moves → ShowsSlotEnds d moves until
