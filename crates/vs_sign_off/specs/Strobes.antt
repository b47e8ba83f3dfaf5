-- What `$strobe` prints of an execution.
use Rattle.std.specs.Prelude.{◌≡◌, ℕ, false, List, [], ◌∷◌, ◌++◌}
use Rattle.vs_design.specs.Parts.{Parts}
use Rattle.vs_design.specs.Traces.{Line, Slot, SameTrace}
use Rattle.vs_process.specs.declared.moves.Move.{Move}
use Rattle.vs_process.specs.Executions.{lines_of, slots, trace}
use Rattle.vs_sign_off.specs.Displays.{prints_at_once}
use Rattle.vs_sign_off.specs.Rows.{rows, times}

-- the lines of `$strobe` of slots, slot by slot (clause 17.1.2)
abbrev pub strobed : List Slot → List Line
strobed [] = []
strobed (s ∷ ss) = s.lines ++ strobed ss

-- the bytes of lines, one after another; each ends with its line feed
abbrev pub bytes_of : List Line → List ℕ
bytes_of [] = []
bytes_of (l ∷ ls) = l.text ++ bytes_of ls

-- what `$strobe` prints of an execution, to a moment
abbrev pub strobe_text : Parts → List Move → ℕ → List ℕ
strobe_text d moves until = bytes_of (strobed (trace d moves until).slots)

-- an execution of a design without `$display` makes the lines of `$strobe` of the slots that ended, and no others
abbrev pub AllLinesAreStrobed : Type 0
AllLinesAreStrobed = (d : Parts) (moves : List Move) → prints_at_once d ≡ false → lines_of d moves ≡ strobed (slots d moves)

-- in what `$strobe` prints of two executions with the same trace each row stands equally often
abbrev pub SameTracesPrintRowsAsOften : Type 0
SameTracesPrintRowsAsOften = (d : Parts) (until : ℕ) (xs ys : List Move) → SameTrace (trace d xs until) (trace d ys until) → (row : List ℕ) →
    times row (rows (strobe_text d xs until)) ≡ times row (rows (strobe_text d ys until))
