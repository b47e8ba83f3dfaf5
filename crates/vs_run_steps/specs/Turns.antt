-- The steps of a run, one by one, and one after another in a slot.
use Rattle.std.specs.Prelude.{ℕ, zero, suc, ◌≡◌, ◌+◌, ◌<◌, ◌≤◌, Bool, true, false, Option, Some, None, List, ◌++◌}
use Rattle.std.specs.Io.KnownBytes.{Appends}
use Rattle.vs_design.specs.Parts.{Parts}
use Rattle.vs_design.specs.Traces.{Slot}
use Rattle.vs_run_active.specs.vs_process.specs.declared.moves.Move.{Move}
use Rattle.vs_run_active.specs.vs_process.specs.declared.moves.Move.TheVariants.{Step, Evaluate, Propagate, Make, Rouse, Activate, EndSlot}
use Rattle.vs_run_active.specs.vs_process.specs.Blocks.{is_step_of_any}
use Rattle.vs_run_active.specs.vs_process.specs.Executions.{after, apply, ended_slot, is_enabled, move_lines}
use Rattle.vs_run_active.specs.vs_process.specs.States.{State}
use Rattle.vs_vcd_writing.specs.Progress.{Progress}
use Rattle.vs_vcd_writing.specs.Sinks.{AppendsPart}
use Rattle.vs_run_steps.specs.Insides.{inside_by_flags}
use Rattle.vs_run_steps.specs.Points.{Point, point}
use Rattle.vs_run_steps.specs.Prints.{lines_text}
use Rattle.vs_run_steps.specs.Recording.{HasNoted}
use Rattle.vs_run_steps.specs.Slots.{AppendsSlots, AppendsSlotsPart}

-- a state to which moves of a design lead
abbrev pub IsReached : Parts → State → Type 0
IsReached d s = (moves : List Move) × (after d moves ≡ s)

-- whether a move is an evaluation or an update: it prints nothing, ends no slot, and is no step of a process
abbrev pub is_silent : Move → Bool
is_silent (Evaluate j) = true
is_silent (Propagate j) = true
is_silent (Make i) = true
is_silent (Step i) = false
is_silent Rouse = false
is_silent Activate = false
is_silent EndSlot = false

-- so many evaluations and updates one after another, each where it is enabled
abbrev pub AreMade : ℕ → State → State → Type 0
AreMade zero s t = t ≡ s
AreMade (suc n) s t =
    (mid : State) × (m : Move) × AreMade n s mid × (is_silent m ≡ true) × (is_enabled mid m ≡ true) × (t ≡ apply m mid)

-- a step: an enabled move, of the combinational block that has left its control where there is one, is made, and the slot that it ends and the lines
-- that it makes are written
pub record Turned (blocks : List Bool) (old new : Point) : Type 0 where
  pub choice : Move
  pub enabled : is_enabled old.state choice ≡ true
  pub free : is_step_of_any old.inside choice ≡ true
  pub made : new.state ≡ apply choice old.state
  pub told : new.inside ≡ inside_by_flags blocks new.state.places choice
  pub written : (d : Parts) (before : List Slot) → HasNoted old.writer old.vcd d before → HasNoted new.writer new.vcd d (before ++ ended_slot choice old.state)
  pub text : (d : Parts) (before : List Slot) → HasNoted old.writer old.vcd d before → AppendsSlots old.vcd new.vcd d before (ended_slot choice old.state)
  pub lines : Appends old.lines new.lines (lines_text (move_lines choice old.state))

-- a step that failed: of the slot that the chosen move ends a beginning is written, and one of the lines that it makes
pub record TurnedPart (old : Point) (sink lines_sink : Option (List ℕ)) : Type 0 where
  pub choice : Move
  pub enabled : is_enabled old.state choice ≡ true
  pub free : is_step_of_any old.inside choice ≡ true
  pub text : (d : Parts) (before : List Slot) → HasNoted old.writer old.vcd d before → AppendsSlotsPart old.vcd sink d before (ended_slot choice old.state)
  pub lines : AppendsPart old.lines lines_sink (lines_text (move_lines choice old.state))

-- so many steps, one after another, each in the slot of the first one and before the end
abbrev pub AllTurned : ℕ → List Bool → Point → Point → Type 0
AllTurned zero blocks old new = new ≡ old
AllTurned (suc n) blocks old new =
    (mid : Point) × AllTurned n blocks old mid × (mid.state.over ≡ false) × (mid.state.time ≡ old.state.time) × Turned blocks mid new

-- of at most so many of them so many are left
abbrev pub TurnedTo : ℕ → ℕ → List Bool → Point → Point → Type 0
TurnedTo steps left blocks p q = (taken : ℕ) × (taken + left ≡ steps) × AllTurned taken blocks p q

-- so many are left, and the slot goes on
pub record Turning (blocks : List Bool) (steps left : ℕ) (p q : Point) : Type 0 where
  pub taken : ℕ
  pub count : taken + left ≡ steps
  pub going : q.state.over ≡ false
  pub time : q.state.time ≡ p.state.time
  pub all : AllTurned taken blocks p q

-- fewer than so many steps, and then one that failed, each in the slot of the first one and before the end
pub record AllTurnedPart (steps : ℕ) (blocks : List Bool) (old : Point) (sink lines_sink : Option (List ℕ)) : Type 0 where
  pub taken : ℕ
  pub last : Point
  pub within : taken < steps
  pub turned : AllTurned taken blocks old last
  pub going : last.state.over ≡ false
  pub time : last.state.time ≡ old.state.time
  pub failed : TurnedPart last sink lines_sink

-- so many steps were taken of at most so many where no block had left its control, and none has then but where all of them were taken
pub record EventTurned (limit taken : ℕ) (blocks : List Bool) (s t : State) (old new : Option (List ℕ)) : Type 0 where
  pub within : taken ≤ limit
  pub going : t.over ≡ false
  pub time : t.time ≡ s.time
  pub now : Option ℕ
  pub closed : taken < limit → now ≡ None
  pub turned : (writer : Option Progress) (vcd : Option (List ℕ)) →
      AllTurned taken blocks (point None s writer vcd old) (point now t writer vcd new)

-- fewer than so many, and then one that failed
abbrev pub EventTurnedPart : ℕ → List Bool → State → Option (List ℕ) → Option (List ℕ) → Type 0
EventTurnedPart limit blocks s old new =
    (writer : Option Progress) (vcd : Option (List ℕ)) → AllTurnedPart limit blocks (point None s writer vcd old) vcd new

-- a step of the block that has left its control can be taken, where there is one
abbrev pub GoesOn : Option ℕ → State → Type 0
GoesOn inside s = (process : ℕ) → inside ≡ Some process → is_enabled s (Step process) ≡ true

-- of at most so many steps so many are left; where some are, this block has left its control, or none
abbrev pub RunsTo : ℕ → ℕ → List Bool → Point → Option ℕ → (Option ℕ → Point) → Type 0
RunsTo steps left blocks p inside q =
    (now : Option ℕ) × TurnedTo steps left blocks p (q now) × (0 < left → now ≡ inside)
