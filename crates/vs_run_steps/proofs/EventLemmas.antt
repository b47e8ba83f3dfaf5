-- Events that fail.
use Rattle.std.proofs.Common.{◌≡◌, ℕ, ◌<◌, Bool, false, Option, None, List}
use Rattle.vs_design.specs.Parts.{Parts}
use Rattle.vs_run_active.specs.vs_process.specs.States.{State}
use Rattle.vs_run_steps.specs.Points.{point}
use Rattle.vs_run_steps.specs.Turns.{EventTurnedPart}
use Rattle.vs_run_steps.proofs.TurnsLemmas.{none_made, once_part}

-- an event that fails before it writes
pub event_stuck : (d : Parts) (blocks : List Bool) (limit : ℕ) (s : State) (lines : Option (List ℕ)) → 0 < limit → s.over ≡ false → EventTurnedPart limit blocks s lines lines
event_stuck d blocks limit s lines some going = λ writer vcd.
    once_part limit blocks (point None s writer vcd lines) vcd lines some going (none_made d (point None s writer vcd lines) going (λ process is. cc))
