-- What is active in a run.
use Rattle.std.specs.Prelude.{ℕ, ◌≡◌, Bool, true, Option, List, slice_get}
use Rattle.std.specs.Io.KnownBytes.{Appends}
use Rattle.vs_run_regions.specs.vs_process.specs.declared.moves.Move.{Move}
use Rattle.vs_run_regions.specs.vs_process.specs.declared.moves.Move.TheVariants.{Step, Evaluate, Propagate, Make, Rouse, Activate, EndSlot}
use Rattle.vs_run_regions.specs.vs_process.specs.Executions.{apply, is_enabled, move_lines}
use Rattle.vs_run_regions.specs.vs_process.specs.States.{AssignState, State}
use Rattle.vs_run_steps.specs.vs_run_active.specs.declared.tables.Tables.{Tables}
use Rattle.vs_run_regions.specs.Regions.{Waiting, place_of_number}
use Rattle.vs_run_regions.specs.Updates.{is_there}
use Rattle.vs_run_steps.specs.declared.run.RunState.{RunState}
use Rattle.vs_run_steps.specs.Runs.{state_of}
use Rattle.vs_run_steps.specs.Prints.{lines_text}
use Rattle.vs_run_steps.specs.Members.{group_move}
use Rattle.vs_run_regions.specs.declared.event.Event.{Event}
use Rattle.vs_run_regions.specs.declared.event.Event.TheVariants as e
use Rattle.vs_kernel.specs.declared.state.Region.{Region}
use Rattle.vs_kernel.specs.declared.state.Region.TheVariants as r

-- the first move of an event, by the tables, the continuous assignments and the updates of a run
abbrev pub event_move : Tables → List AssignState → Waiting → Event → Move
event_move tables assigns regions (e.Step i) = Step i
event_move tables assigns regions (e.Evaluate j) = Evaluate j
event_move tables assigns regions (e.Propagate j) = Propagate j
event_move tables assigns regions (e.Group g) = group_move tables assigns g
event_move tables assigns regions (e.Make k) = Make (place_of_number k regions)
event_move tables assigns regions e.Updates = Make (place_of_number 0 regions)

-- the same in a run
abbrev pub move_of : {Q : Type 0} → RunState Q → Event → Move
move_of run event = event_move run.watched.tables run.watched.events.assigns run.regions event

-- whether the first update of an event, where it has one, is left
abbrev pub is_left : Waiting → Event → Bool
is_left regions (e.Make k) = is_there (slice_get regions.listed.active k)
is_left regions e.Updates = is_there (slice_get regions.listed.active 0)
is_left regions _ = true

-- an event is active in a run
abbrev pub IsActive : {Q : Type 0} → RunState Q → Event → Type 0
IsActive run event = (is_left run.regions event ≡ true) × (is_enabled (state_of run) (move_of run event) ≡ true)

-- an event is one move: it isn't that of a group or of all activated updates
abbrev pub IsSingle : Event → Type 0
IsSingle (e.Group g) = ⊥
IsSingle e.Updates = ⊥
IsSingle _ = Unit {0}

-- an event that a policy may choose
abbrev pub IsChoice : {Q : Type 0} → RunState Q → Event → Type 0
IsChoice run event = IsActive run event × IsSingle event

-- a move was made, and its lines were written
pub record IsMade (m : Move) (s t : State) (old new : Option (List ℕ)) : Type 0 where
  pub made : t ≡ apply m s
  pub printed : Appends old new (lines_text (move_lines m s))

-- the move that is made where no event is active (clause 11.3)
abbrev pub region_move : Region → Move
region_move r.Inactive = Rouse
region_move r.Updates = Activate
region_move r.End = EndSlot
