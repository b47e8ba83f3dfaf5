-- Steps of a process in a run.
use Rattle.std.specs.Prelude.{ℕ, zero, suc, ◌≡◌, ◌≤◌, true, Option, Some, List, [], ◌∷◌, ◌++◌, length, slice_get}
use Rattle.std.specs.Io.KnownBytes.{Appends}
use Rattle.vs_design.specs.declared.signal.Signal.{Signal}
use Rattle.vs_design.specs.Parts.{Parts}
use Rattle.vs_design.specs.Stores.{Store}
use Rattle.vs_process.specs.vs_strobe.specs.Lines.{full_line}
use Rattle.vs_process.specs.declared.gait.Gait.{Gait}
use Rattle.vs_process.specs.declared.script.Action.{Action}
use Rattle.vs_process.specs.declared.script.Action.TheVariants as a
use Rattle.vs_process.specs.ChosenPlaces.{IsChosenIn}
use Rattle.vs_process.specs.Places.{Place, Todo, active_at, going, stepped_gait}
use Rattle.vs_process.specs.Scripts.{AreSwitchesOf, Does, IsStep, todo_on}
use Rattle.vs_process.specs.Spots.{IsSpotIn}
use Rattle.vs_process.specs.Steps.{Next, Out, on}
use Rattle.vs_process.specs.Texts.{HasControl, Text}
use Rattle.vs_run_active.specs.vs_process.specs.States.{State, place_after_step}
use Rattle.vs_run_regions.specs.vs_time_wheel.specs.Bag.{SameBag}
use Rattle.vs_run_active.specs.declared.process.Process.{Process}
use Rattle.vs_run_active.specs.declared.process.Wait.{Wait}
use Rattle.vs_run_active.specs.declared.process.Wait.TheVariants as w
use Rattle.vs_run_active.specs.ProcessPlaces.{is_active, place_by}
use Rattle.vs_run_active.specs.Taken.{AreTaken, left_by, placed}
use Rattle.vs_run_steps.specs.vs_run_active.specs.declared.watchers.ProcessTerm.{ProcessTerm}
use Rattle.vs_run_regions.specs.Regions.{Waiting}
use Rattle.vs_run_steps.specs.declared.run.RunState.{RunState}
use Rattle.vs_run_steps.specs.declared.step.Went.{Went}
use Rattle.vs_run_steps.specs.declared.step.Went.TheVariants.{On, Rests}
use Rattle.vs_run_steps.specs.Runs.{Keeps, counters_at, state_of}

-- what an instruction prints at once, in a store at a time (clause 17.1.1)
abbrev pub action_text : Action → Store → ℕ → List ℕ
action_text (a.Display format) store time = full_line format.now store time
action_text _ store time = []

-- the words that an instruction names are those of a design with these signals
abbrev pub IsKnown : List Signal → Action → Type 0
IsKnown signals (a.Assign spot r) = IsSpotIn signals spot × (r.signals ≡ signals)
IsKnown signals (a.AssignChosen place r) = IsChosenIn signals place × (r.signals ≡ signals)
IsKnown signals (a.Update spot r) = IsSpotIn signals spot × (r.signals ≡ signals)
IsKnown signals (a.UpdateChosen place r) = IsChosenIn signals place × (r.signals ≡ signals)
IsKnown signals (a.Branch r other) = r.signals ≡ signals
IsKnown signals (a.Case all) = AreSwitchesOf signals all.items
IsKnown signals _ = Unit {0}

-- the event control of an instruction, where it is one, is one of a text
abbrev pub IsControlIn : Text → Action → Type 0
IsControlIn c (a.Wait n terms) = HasControl c n terms.now
IsControlIn c _ = Unit {0}

-- a process that isn't active waits so, at a time: until a time that isn't over, or at an event control of its text
abbrev pub IsRest : Text → ℕ → Wait → Type 0
IsRest c time (w.Nothing gait) = ⊥
IsRest c time (w.Until due) = time ≤ due
IsRest c time w.Inactive = Unit {0}
IsRest c time (w.Terms n terms) = HasControl c n terms.now

-- so does one that may be active
abbrev pub IsValidWait : Text → ℕ → Wait → Type 0
IsValidWait c time (w.Nothing gait) = Unit {0}
IsValidWait c time (w.Until due) = time ≤ due
IsValidWait c time w.Inactive = Unit {0}
IsValidWait c time (w.Terms n terms) = HasControl c n terms.now

-- the end of a delay isn't before a time
abbrev pub IsLater : ℕ → Wait → Type 0
IsLater time (w.Until due) = time ≤ due
IsLater time _ = Unit {0}

-- a process that waits so for the end of a delay is noted among those that do
abbrev pub Noted : ℕ → Wait → Waiting → Waiting → Type 0
Noted number (w.Nothing gait) old new = (new.inactive ≡ old.inactive) × SameBag new.sleepers old.sleepers
Noted number (w.Until due) old new = (new.inactive ≡ old.inactive) × SameBag new.sleepers (old.sleepers ++ record { time = due; event = number } ∷ [])
Noted number w.Inactive old new = (new.inactive ≡ old.inactive ++ number ∷ []) × SameBag new.sleepers old.sleepers
Noted number (w.Terms n terms) old new = (new.inactive ≡ old.inactive) × SameBag new.sleepers old.sleepers

-- so it is, at the same time, with the same updates
pub record Enters (number : ℕ) (wait : Wait) (old new : Waiting) : Type 0 where
  pub noted : Noted number wait old new
  pub time : new.time ≡ old.time
  pub updates : new.updates ≡ old.updates
  pub listed : new.listed ≡ old.listed

-- where a step leads is told by an index of a text and by what is waited for there
abbrev pub LeadsTo : Text → List ℕ → ℕ → Next → Went → Type 0
LeadsTo c counters time next (On index) = next ≡ on (todo_on c counters index)
LeadsTo c counters time next (Rests index wait) =
    IsRest c time wait × ((gait : Gait) (todo : Todo) → place_after_step (going gait todo) time next ≡ place_by wait (todo_on c counters index))

-- a process that stands at an index of its text has taken a step in a run, but for its own place: what comes of the step is done, and where it
-- leads is told
pub record IsStepDone {Q : Type 0} (number : ℕ) (c : Text) (index : ℕ) (old new : RunState Q) (went : Went) : Type 0 where
  pub out : Out
  pub step : IsStep (todo_on c (counters_at number old) index) old.watched.store old.regions.time out
  pub left : (place : Place) → placed (state_of new) number place ≡ placed (left_by (state_of old) number out) number place
  pub leads : LeadsTo c (counters_at number new) old.regions.time out.next went

-- so does each process that stands at such an instruction, with these counters
pub record Acts {Q : Type 0} (number : ℕ) (action : Action) (next : ℕ) (old new : RunState Q) (went : Went) : Type 0 where
  pub done : (c : Text) (index : ℕ) → Does c index action next → IsControlIn c action → length (counters_at number old) ≡ c.counters →
      IsStepDone number c index old new went

-- a process of this number was active, with the script that this one has
pub record IsMovedFrom (number : ℕ) (process : Process) (all : List Process) : Type 0 where
  pub old : Process
  pub at : slice_get all number ≡ Some old
  pub active : is_active old ≡ true
  pub script : old.script.now ≡ process.script.now

-- so many steps of a process were taken, and the lines that they print were written
abbrev pub HaveTaken : ℕ → ℕ → State → State → Option (List ℕ) → Option (List ℕ) → Type 0
HaveTaken n i s t old new = (text : List ℕ) × AreTaken n i s t text × Appends old new text

-- the gait after so many steps
abbrev pub gait_at : ℕ → Gait → Gait
gait_at zero gait = gait
gait_at (suc n) gait = stepped_gait gait

-- a process that began at an index with a gait has taken so many steps in a run, but for its own place, and stands at another index now
pub record IsStepping {Q : Type 0} (d : Parts) (terms : List ProcessTerm) (number : ℕ) (c : Text) (from : ℕ) (gait : Gait) (old : RunState Q) (known : Option (List ℕ))
    (steps index : ℕ) (now : RunState Q) (known_now : Option (List ℕ)) : Type 0 where
  pub first : steps ≡ 0 → index ≡ from
  pub keeps : Keeps d terms old now
  pub taken : HaveTaken steps number (state_of old) (placed (state_of now) number (active_at (gait_at steps gait) (todo_on c (counters_at number now) index))) known known_now
