-- Scripts: flat codes as a run takes their steps.
use Rattle.std.specs.Prelude.{ℕ, suc, ◌≡◌, true, false, Option, Some, None, List, [], ◌∷◌, length, map, slice_get}
use Rattle.std.specs.List.{All}
use Rattle.vs_design.specs.vs_logic4.specs.declared.digit.Digit.{Digit}
use Rattle.vs_design.specs.vs_logic4.specs.Comparisons.{truth}
use Rattle.vs_design.specs.vs_logic4.specs.Vectors.{resized}
use Rattle.vs_design.specs.declared.signal.Signal.{Signal}
use Rattle.vs_design.specs.declared.statement.Statement.{Statement}
use Rattle.vs_design.specs.Stores.{Store}
use Rattle.vs_strobe.specs.vs_eval.specs.Values.{value_of}
use Rattle.vs_strobe.specs.Lines.{full_line}
use Rattle.vs_process.specs.declared.chosen_place.ChosenPlace.{ChosenPlace}
use Rattle.vs_process.specs.declared.script.Action.{Action}
use Rattle.vs_process.specs.declared.script.Action.TheVariants as a
use Rattle.vs_process.specs.declared.script.Instruction.{Instruction}
use Rattle.vs_process.specs.declared.spot.Spot.{Spot}
use Rattle.vs_process.specs.declared.switch.Switch.{Switch}
use Rattle.vs_process.specs.Choices.{index_of, case_index, repeat_lands, turns_lands}
use Rattle.vs_process.specs.ChosenPlaces.{IsChosenIn, chosen_value, chosen_write}
use Rattle.vs_process.specs.Landings.{Landing}
use Rattle.vs_process.specs.Links.{todo_at}
use Rattle.vs_eval.specs.Meant.{Meaning}
use Rattle.vs_process.specs.Places.{Todo, flat}
use Rattle.vs_process.specs.Spots.{IsSpotIn, spot_write}
use Rattle.vs_process.specs.Steps.{on, after, wait, Out, goes, step, assignment, branch, has_nothing}
use Rattle.vs_process.specs.Texts.{AreApart, Control, Text, controls_of}

-- what a process still has to do that stands at an index of a script, with these counters
abbrev pub todo_on : Text → List ℕ → ℕ → Todo
todo_on c counters index = todo_at c.links counters (suc index)

-- the index of a place
abbrev pub index_in : Text → ℕ → ℕ
index_in c place = index_of (length c.links) place

-- the same of a place with its counters
abbrev pub todo_landed : Text → Landing → Todo
todo_landed c l = todo_on c l.counters (index_in c l.place)

-- a process with this to do takes a step of which this comes
pub record IsStep (todo : Todo) (store : Store) (time : ℕ) (makes : Out) : Type 0 where
  pub some : has_nothing todo ≡ false
  pub out : step todo store time ≡ makes

-- from an index of a script on, whatever the counters, the store and the time are, a process takes a step of which this comes
pub record Steps (c : Text) (index : ℕ) (makes : List ℕ → Store → ℕ → Out) : Type 0 where
  pub takes : (counters : List ℕ) (store : Store) (time : ℕ) → length counters ≡ c.counters →
      IsStep (todo_on c counters index) store time (makes counters store time)

-- what a spot gets of a resolved expression (clause 5.4.1)
abbrev pub spot_value : Spot → Meaning → Store → ℕ → List Digit
spot_value spot r store time = resized false spot.width (value_of r.expression store time)

-- a spot and a resolved expression are of the script's design
pub record AreOf (c : Text) (spot : Spot) (r : Meaning) : Type 0 where
  pub inside : IsSpotIn c.signals spot
  pub signals : r.signals ≡ c.signals

-- so are a place that indices choose and a resolved expression
pub record AreChosenOf (c : Text) (place : ChosenPlace) (r : Meaning) : Type 0 where
  pub inside : IsChosenIn c.signals place
  pub signals : r.signals ≡ c.signals

-- `case`s are of a design with these signals
abbrev pub AreSwitchesOf : List Signal → List Switch → Type 0
AreSwitchesOf signals all = All (λ (s : Switch). s.subject.signals ≡ signals) all

-- where the first of some `case`s leads; where there is none, this index
abbrev pub led_by : List Switch → ℕ → Store → ℕ → ℕ
led_by [] none store time = none
led_by (s ∷ more) none store time = case_index s.case store time

-- what an instruction at an index does, and where it goes on, is the step of a process that stands there (clauses 9.2, 9.4 to 9.7, 17.1 and 17.4.1)
abbrev pub Does : Text → ℕ → Action → ℕ → Type 0
Does c here a.Nothing next = Steps c here (λ counters store time. goes (on (todo_on c counters next)))
Does c here (a.Assign spot r) next = AreOf c spot r
    × Steps c here (λ counters store time.
    record (goes (on (todo_on c counters next))) { write = Some (spot_write spot (spot_value spot r store time)) })
Does c here (a.AssignChosen place r) next = AreChosenOf c place r
    × Steps c here (λ counters store time.
    record (goes (on (todo_on c counters next))) { write = Some (chosen_write place (chosen_value place r store time) store time) })
Does c here (a.AssignAny t e) next = Steps c here (λ counters store time.
    record (goes (on (todo_on c counters next))) { write = Some (assignment t.now e.now store time) })
Does c here (a.Update spot r) next = AreOf c spot r
    × Steps c here (λ counters store time.
    record (goes (on (todo_on c counters next))) { update = Some (0, spot_write spot (spot_value spot r store time)) })
Does c here (a.UpdateChosen place r) next = AreChosenOf c place r
    × Steps c here (λ counters store time.
    record (goes (on (todo_on c counters next))) { update = Some (0, chosen_write place (chosen_value place r store time) store time) })
Does c here (a.UpdateAny ticks t e) next = Steps c here (λ counters store time.
    record (goes (on (todo_on c counters next))) { update = Some (ticks.count, assignment t.now e.now store time) })
Does c here (a.Branch r other) next = (r.signals ≡ c.signals)
    × Steps c here (λ counters store time. goes (on (todo_on c counters (branch (truth (value_of r.expression store time)) next other))))
Does c here (a.Case all) next = AreSwitchesOf c.signals all.items
    × Steps c here (λ counters store time. goes (on (todo_on c counters (led_by all.items next store time))))
Does c here (a.Repeat choice) next = (choice.count ≡ length c.links)
    × Steps c here (λ counters store time. goes (on (todo_landed c (repeat_lands choice counters store time))))
Does c here (a.Turns choice) next = (choice.count ≡ length c.links)
    × Steps c here (λ counters store time. goes (on (todo_landed c (turns_lands choice counters))))
Does c here (a.Display format) next = Steps c here (λ counters store time.
    record (goes (on (todo_on c counters next))) { line = Some (full_line format.now store time) })
Does c here (a.Strobe format) next = Steps c here (λ counters store time.
    record (goes (on (todo_on c counters next))) { call = Some format.now })
Does c here a.Finish next = Steps c here (λ counters store time. record (goes (on (todo_on c counters next))) { finish = true })
Does c here (a.Delay n ticks) next = Steps c here (λ counters store time. goes (after n ticks.count (todo_on c counters next)))
Does c here (a.Wait n terms) next = Steps c here (λ counters store time. goes (wait n terms.now (todo_on c counters next)))

-- the event control at which an instruction waits, where it does
abbrev pub action_control : Action → Option Control
action_control (a.Wait n terms) = Some (n, terms.now)
action_control _ = None

abbrev pub instruction_control : Instruction → Option Control
instruction_control x = action_control x.action

-- the instructions of a script: each does the step of a process that stands there, at each something is left to be done and after the last one nothing,
-- they have the event controls of the text, and these have numbers of their own
pub record IsScriptOf (c : Text) (script : List Instruction) : Type 0 where
  pub does : (i : ℕ) (x : Instruction) → slice_get script i ≡ Some x → Does c i x.action x.next
  pub some : (i : ℕ) (x : Instruction) (counters : List ℕ) → slice_get script i ≡ Some x → has_nothing (todo_on c counters i) ≡ false
  pub ends : (i : ℕ) (counters : List ℕ) → slice_get script i ≡ None → todo_on c counters i ≡ []
  pub controls : map instruction_control script ≡ controls_of c
  pub apart : AreApart c.links

-- a script starts where the whole body is to be done
abbrev pub StartsWith : Text → Statement → Type 0
StartsWith c body = (counters : List ℕ) → todo_on c counters c.start ≡ flat body
