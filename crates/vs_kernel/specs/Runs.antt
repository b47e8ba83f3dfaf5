-- What a run is.
use Rattle.std.specs.Prelude.{ℕ, ◌≡◌, ◌≤◌, true, false, Option, List, [], ◌∷◌, ◌++◌, length, if◌then◌else◌}
use Rattle.std.specs.Io.KnownBytes.{Appends}
use Rattle.vs_design.specs.Parts.{Parts}
use Rattle.vs_run_regions.specs.vs_process.specs.declared.moves.Grain.TheVariants.{Statement, Block}
use Rattle.vs_run_regions.specs.vs_process.specs.declared.moves.Move.{Move}
use Rattle.vs_run_regions.specs.vs_process.specs.Executions.{after, Legal, lines_of, slots, trace, is_complete}
use Rattle.vs_run_regions.specs.vs_process.specs.States.{State}
use Rattle.vs_vcd_writing.specs.Sinks.{AppendsPart}
use Rattle.vs_vcd_writing.specs.Text.{vcd_header, vcd_slots, vcd_text}
use Rattle.vs_kernel.specs.vs_run_steps.specs.Prints.{lines_text}
use Rattle.vs_kernel.specs.declared.outcome.Outcome.{Outcome}
use Rattle.vs_kernel.specs.declared.outcome.Outcome.TheVariants.{Reached, Quiet, Finished, StepLimit}

-- where an execution of so many steps ends: its time is past the moment, it is over by then, or all steps were taken and it isn't complete
abbrev pub EndsAs : Outcome → ℕ → ℕ → ℕ → State → Type 0
EndsAs Reached until steps taken s = (s.over ≡ false) × (is_complete until s ≡ true) × (taken ≤ steps)
EndsAs Quiet until steps taken s = (s.over ≡ true) × (s.finishing ≡ false) × (s.time ≤ until) × (taken ≤ steps)
EndsAs (Finished time) until steps taken s = (s.over ≡ true) × (s.finishing ≡ true) × (s.time ≡ time) × (time ≤ until) × (taken ≤ steps)
EndsAs (StepLimit time) until steps taken s = (is_complete until s ≡ false) × (s.time ≡ time) × (taken ≡ steps)

-- no move is made of an execution that is complete to a moment; the moves stand newest first
abbrev pub StopsAt : ℕ → Parts → List Move → Type 0
StopsAt until d [] = Unit {0}
StopsAt until d (m ∷ before) = StopsAt until d before × (is_complete until (after d before) ≡ false)

-- the value change dump so far: of an execution that is complete the whole, else the header and the slots that ended (profile)
abbrev pub text_so_far : Parts → List Move → ℕ → List ℕ
text_so_far d moves until =
    if is_complete until (after d moves) then vcd_text d (trace d moves until) until else vcd_header d ++ vcd_slots d (slots d moves)

-- a run of a design to a moment in at most so many steps: an execution, legal at both grains, that goes on until it ends as its outcome says,
-- and whose value change dump was appended to the known bytes of a sink, and whose lines to those of another one (clauses 11 and 17.1)
pub record RanTo (d : Parts) (until steps : ℕ) (outcome : Outcome) (old new lines_old lines_new : Option (List ℕ)) : Type 0 where
  -- the moves, the newest first
  pub moves : List Move
  pub statement : Legal Statement d moves
  pub block : Legal Block d moves
  pub stops : StopsAt until d moves
  pub end : EndsAs outcome until steps (length moves) (after d moves)
  pub text : Appends old new (text_so_far d moves until)
  pub lines : Appends lines_old lines_new (lines_text (lines_of d moves))

-- what a failed run leaves: a beginning of the value change dump of an execution, the move in hand included, was appended to the known bytes of a
-- sink, and a beginning of its lines to those of another one (profile)
pub record HasBegun (d : Parts) (until steps : ℕ) (old new lines_old lines_new : Option (List ℕ)) : Type 0 where
  pub moves : List Move
  pub statement : Legal Statement d moves
  pub block : Legal Block d moves
  pub stops : StopsAt until d moves
  pub within : length moves ≤ steps
  pub text : AppendsPart old new (text_so_far d moves until)
  pub lines : AppendsPart lines_old lines_new (lines_text (lines_of d moves))
