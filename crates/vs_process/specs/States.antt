-- The state of an execution, and what changes it.
use Rattle.std.specs.Prelude.{ℕ, zero, suc, ◌+◌, ◌==◌, ◌&&◌, ◌||◌, not, Bool, true, false, Option, Some, None, List, [], ◌∷◌, ◌++◌, map, slice_set, if◌then◌else◌}
use Rattle.std.specs.List.{list_any}
use Rattle.vs_design.specs.vs_logic4.specs.declared.digit.Digit.{Digit}
use Rattle.vs_design.specs.declared.design.Assign.{Assign}
use Rattle.vs_design.specs.declared.design.Process.{Process}
use Rattle.vs_design.specs.declared.expression.Typed.{Typed}
use Rattle.vs_design.specs.declared.statement.EventTerm.{EventTerm}
use Rattle.vs_design.specs.declared.statement.Target.{Target}
use Rattle.vs_design.specs.Parts.{Parts}
use Rattle.vs_design.specs.Stores.{Store, put, is_changed, changes_nothing, start_store}
use Rattle.vs_design.specs.Uses.{reads}
use Rattle.vs_design.specs.Writes.{Write}
use Rattle.vs_eval.specs.Targets.{assigned}
use Rattle.vs_eval.specs.Values.{target_value}
use Rattle.vs_process.specs.vs_strobe.specs.Lines.{Format}
use Rattle.vs_process.specs.declared.gait.Gait.TheVariants.{Woken}
use Rattle.vs_eval.specs.Waking.{wake_any}
use Rattle.vs_process.specs.Places.{Todo, Place, going, sleeping, inactive, waiting, ended, active_at, stepped_gait, start_place, todo_of}
use Rattle.vs_process.specs.Steps.{Next, on, after, wait, Out, step}

-- a continuous assignment in a state: what it is, whether it has to be evaluated, and the value that waits to be written (clause 6.1; one pending value: profile)
pub record AssignState : Type 0 where
  pub target : Target
  pub source : Typed
  pub needs : Bool
  pub pending : Option (List Digit)

-- a nonblocking update (clause 11.3): the process that made it, when it is due, whether it is activated, and what it writes
pub record Update : Type 0 where
  pub by : ℕ
  pub due : ℕ
  pub active : Bool
  pub what : Write

-- a call of `$strobe` in this slot, and the process that made it (clause 17.1.2)
pub record Called : Type 0 where
  pub by : ℕ
  pub call : Format

-- the state of an execution (clause 11): the nonblocking updates, and the calls of `$strobe`, stand in the order in which they were made, the
-- oldest first
pub record State : Type 0 where
  pub store : Store
  pub places : List Place
  pub assigns : List AssignState
  pub updates : List Update
  pub calls : List Called
  pub time : ℕ
  pub finishing : Bool
  pub over : Bool

abbrev pub start_assign : Assign → AssignState
start_assign a = record { target = a.target; source = a.source; needs = true; pending = None }

-- the state in which every execution of a design begins (clause 11.4; the evaluation of every assignment at time zero: profile)
abbrev pub start : Parts → State
start d = record {
  store = start_store d;
  places = map (λ (p : Process). start_place p.body) d.processes;
  assigns = map start_assign d.assigns;
  updates = [];
  calls = [];
  time = 0;
  finishing = false;
  over = false;
}

-- a continuous assignment behind a change of the store: it has to be evaluated where a bit that it reads differs (clause 6.1.2)
abbrev pub touched : Store → Store → AssignState → AssignState
touched old new x = record x { needs = x.needs || list_any (is_changed old new) (reads x.source) }

-- a place behind a change of the store: a process that waits for one of these terms becomes active (clause 9.7.2)
abbrev pub wakened : Store → Store → Place → Place
wakened old new (waiting terms todo) = if wake_any terms old new then active_at Woken todo else waiting terms todo
wakened old new (going gait todo) = going gait todo
wakened old new (sleeping due todo) = sleeping due todo
wakened old new (inactive todo) = inactive todo
wakened old new ended = ended

-- the terms that a process waits for; none where it waits for no event
abbrev pub terms_of : Place → List EventTerm
terms_of (waiting terms todo) = terms
terms_of _ = []

-- a process that waits for an event becomes active (clause 9.7.2)
abbrev pub triggered : Place → Place
triggered (waiting terms todo) = active_at Woken todo
triggered place = place

-- a state whose store has changed: who wakes, and what has to be evaluated, is decided between the store before and the store behind
abbrev pub refreshed : Store → State → State
refreshed new s = record s {
  store = new;
  places = map (wakened s.store new) s.places;
  assigns = map (touched s.store new) s.assigns;
}

-- a state after a write, which is one change however many parts it has
abbrev pub written : State → Write → State
written s w = refreshed (put s.store w) s

-- a state behind a step that may write
abbrev pub written_after : State → Option Write → State
written_after s None = s
written_after s (Some w) = written s w

-- the updates behind a step of a process
abbrev pub updates_after : ℕ → ℕ → Option (ℕ × Write) → List Update → List Update
updates_after by time None updates = updates
updates_after by time (Some u) updates = updates ++ record { by = by; due = time + u.0; active = false; what = u.1 } ∷ []

-- the calls of `$strobe` behind a step of a process
abbrev pub calls_after : ℕ → Option Format → List Called → List Called
calls_after by None calls = calls
calls_after by (Some c) calls = calls ++ record { by = by; call = c } ∷ []

-- a delay begins: of zero ticks it makes the process inactive (clauses 9.7.1 and 11.3)
abbrev pub paused : ℕ → ℕ → Todo → Place
paused time ticks todo = if ticks == 0 then inactive todo else sleeping (time + ticks) todo

abbrev pub place_after_step : Place → ℕ → Next → Place
place_after_step (going gait todo) time (on rest) = active_at (stepped_gait gait) rest
place_after_step _ time (on rest) = ended
place_after_step _ time (after number ticks rest) = paused time ticks rest
place_after_step _ time (wait number terms rest) = waiting terms rest

-- a state after a step of a process, of which this came
abbrev pub performed : State → ℕ → Place → Out → State
performed s i place out =
    let t = written_after s out.write in
    record t {
      places = slice_set t.places i (place_after_step place s.time out.next);
      updates = updates_after i s.time out.update s.updates;
      calls = calls_after i out.call s.calls;
      finishing = s.finishing || out.finish;
    }

abbrev pub stepped : State → ℕ → Option Place → State
stepped s i None = s
stepped s i (Some place) = performed s i place (step (todo_of place) s.store s.time)

-- a continuous assignment after its evaluation: a value that would change nothing leaves nothing pending, another one takes the place of an older one (profile)
abbrev pub evaluated : Store → ℕ → AssignState → AssignState
evaluated store time x =
    let digits = target_value x.target x.source store time in
    record x { needs = false; pending = if changes_nothing store (assigned x.target digits store time) then None else Some digits }

abbrev pub evaluate : State → ℕ → Option AssignState → State
evaluate s j None = s
evaluate s j (Some x) = record s { assigns = slice_set s.assigns j (evaluated s.store s.time x) }

abbrev pub settled : AssignState → AssignState
settled x = record x { pending = None }

abbrev pub propagate_value : State → ℕ → AssignState → Option (List Digit) → State
propagate_value s j x None = s
propagate_value s j x (Some digits) = written (record s { assigns = slice_set s.assigns j (settled x) }) (assigned x.target digits s.store s.time)

-- a state after the update of a continuous assignment
abbrev pub propagate : State → ℕ → Option AssignState → State
propagate s j None = s
propagate s j (Some x) = propagate_value s j x x.pending

-- a list without its element at a place
abbrev pub without : {A : Type 0} → ℕ → List A → List A
without i [] = []
without zero (x ∷ xs) = xs
without (suc i) (x ∷ xs) = x ∷ without i xs

-- a state after a nonblocking update
abbrev pub make : State → ℕ → Option Update → State
make s i None = s
make s i (Some u) = written (record s { updates = without i s.updates }) u.what

abbrev pub roused : Place → Place
roused (inactive todo) = active_at Woken todo
roused place = place

abbrev pub is_due : ℕ → Update → Bool
is_due time u = not u.active && u.due == time

-- an update that is due in this slot is activated
abbrev pub activated : ℕ → Update → Update
activated time u = record u { active = u.active || u.due == time }

-- a process whose delay ends at this time becomes active
abbrev pub woken_at : ℕ → Place → Place
woken_at time (sleeping due todo) = if due == time then active_at Woken todo else sleeping due todo
woken_at time place = place

-- the time at which the delay of a process ends, where it waits for one
abbrev pub due_of : Place → Option ℕ
due_of (sleeping due todo) = Some due
due_of _ = None
