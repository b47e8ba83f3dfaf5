-- What is permitted, rule by rule, and that something always is.
use Rattle.std.specs.Prelude.{ℕ, ◌≡◌, true, false, Some, List, map, slice_get}
use Rattle.vs_design.specs.vs_logic4.specs.declared.digit.Digit.{Digit}
use Rattle.vs_design.specs.Parts.{Parts}
use Rattle.vs_process.specs.declared.moves.Grain.{Grain}
use Rattle.vs_process.specs.declared.moves.Move.{Move}
use Rattle.vs_process.specs.declared.moves.Move.TheVariants.{Step, Evaluate, Propagate, Make, Rouse, Activate, EndSlot}
use Rattle.vs_process.specs.Places.{Place, is_going}
use Rattle.vs_process.specs.Steps.{step}
use Rattle.vs_process.specs.States.{State, AssignState, Update, performed, evaluate, propagate_value, make, roused, activated}
use Rattle.vs_process.specs.Places.{todo_of}
use Rattle.vs_process.specs.Executions.{is_first, is_busy, has_inactive, has_due, is_free, after_slot, allowed, apply, after, Legal}

-- nothing is enabled but a change of region: no active event is left (clause 11.3)
abbrev pub IsQuiet : State → Type 0
IsQuiet s = is_busy s ≡ false

-- the permitted steps from a state, a rule a constructor (clauses 11.3 and 11.4)
pub data Permitted (grain : Grain) (d : Parts) (s : State) : State → Type 0 where
  -- one step of an active process
  runs : (i : ℕ) (place : Place) → s.over ≡ false → slice_get s.places i ≡ Some place → is_going place ≡ true → is_free grain d s (Step i) ≡ true →
      Permitted grain d s (performed s i place (step (todo_of place) s.store s.time))
  -- one evaluation of a continuous assignment that needs it
  evaluates : (j : ℕ) (x : AssignState) → s.over ≡ false → slice_get s.assigns j ≡ Some x → x.needs ≡ true → is_free grain d s (Evaluate j) ≡ true →
      Permitted grain d s (evaluate s j (Some x))
  -- one update of a continuous assignment that has a pending value
  propagates : (j : ℕ) (x : AssignState) (digits : List Digit) → s.over ≡ false → slice_get s.assigns j ≡ Some x → x.pending ≡ Some digits → is_free grain d s (Propagate j) ≡ true →
      Permitted grain d s (propagate_value s j x (Some digits))
  -- one activated nonblocking update, where no older activated one names a signal that it names
  updates : (i : ℕ) (u : Update) → s.over ≡ false → slice_get s.updates i ≡ Some u → is_first s.updates i u ≡ true → is_free grain d s (Make i) ≡ true →
      Permitted grain d s (make s i (Some u))
  -- where nothing of these is enabled, the inactive processes become active
  rouses : s.over ≡ false → IsQuiet s → has_inactive s ≡ true → is_free grain d s Rouse ≡ true →
      Permitted grain d s (record s { places = map roused s.places })
  -- if there are none, the nonblocking updates that are due in this slot are activated
  activates : s.over ≡ false → IsQuiet s → has_inactive s ≡ false → has_due s ≡ true → is_free grain d s Activate ≡ true →
      Permitted grain d s (record s { updates = map (activated s.time) s.updates })
  -- if there are none, the slot ends
  ends_slot : s.over ≡ false → IsQuiet s → has_inactive s ≡ false → has_due s ≡ false → is_free grain d s EndSlot ≡ true →
      Permitted grain d s (after_slot s)

-- some move is allowed
abbrev pub CanGo : Grain → Parts → State → Type 0
CanGo grain d s = (m : Move) × (allowed grain d s m ≡ true)

-- a state that an execution reaches and that isn't over has a permitted step
abbrev pub NeverStuck : Type 0
NeverStuck = (grain : Grain) (d : Parts) (moves : List Move) → Legal grain d moves → (after d moves).over ≡ false → CanGo grain d (after d moves)

-- an allowed move is a permitted step, and a permitted step is an allowed move
pub record MovesArePermitted : Type 0 where
  pub allowed_is_permitted : (grain : Grain) (d : Parts) (s : State) (m : Move) → allowed grain d s m ≡ true → Permitted grain d s (apply m s)
  pub permitted_is_allowed : (grain : Grain) (d : Parts) (s t : State) → Permitted grain d s t → (m : Move) × (allowed grain d s m ≡ true) × (apply m s ≡ t)
