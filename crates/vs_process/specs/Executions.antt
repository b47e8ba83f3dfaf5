-- What is permitted at each moment, and executions.
use Rattle.std.specs.Prelude.{ℕ, suc, ◌==◌, ◌≡◌, ◌&&◌, ◌||◌, not, Bool, true, false, Option, Some, None, List, [], ◌∷◌, ◌++◌, map, filter, take, is_some, is_none, leb, slice_get, if◌then◌else◌, min, nat_lt}
use Rattle.std.specs.List.{list_any, list_all}
use Rattle.vs_design.specs.vs_logic4.specs.declared.edge.Edge.{Edge}
use Rattle.vs_design.specs.vs_logic4.specs.declared.edge.Edge.TheVariants.{Any}
use Rattle.vs_design.specs.declared.design.Process.{Process}
use Rattle.vs_design.specs.declared.design.ProcessKind.{ProcessKind}
use Rattle.vs_design.specs.declared.design.ProcessKind.TheVariants.{Initial, Always}
use Rattle.vs_design.specs.declared.statement.EventTerm.{EventTerm}
use Rattle.vs_design.specs.declared.statement.Statement.{Statement}
use Rattle.vs_design.specs.declared.statement.Statement.TheOpen.{Statement-F}
use Rattle.vs_design.specs.declared.statement.Statement.TheOpen as f
use Rattle.vs_design.specs.declared.statement.Statement.TheViews.{out-Statement}
use Rattle.vs_design.specs.Statements.{has_control}
use Rattle.vs_design.specs.Parts.{Parts}
use Rattle.vs_design.specs.Stores.{Store}
use Rattle.vs_design.specs.Traces.{Line, Slot, Trace}
use Rattle.vs_design.specs.Writes.{shares}
use Rattle.vs_process.specs.declared.moves.Grain.{Grain}
use Rattle.vs_process.specs.declared.moves.Grain.TheVariants as g
use Rattle.vs_process.specs.declared.moves.Move.{Move}
use Rattle.vs_process.specs.declared.moves.Move.TheVariants.{Step, Evaluate, Propagate, Make, Rouse, Activate, EndSlot}
use Rattle.vs_process.specs.vs_strobe.specs.Lines.{full_line}
use Rattle.vs_process.specs.Places.{Place, todo_of, sleeping, is_going, is_inactive, is_inside}
use Rattle.vs_process.specs.Steps.{step}
use Rattle.vs_process.specs.States.{AssignState, Update, Called, State, start, stepped, evaluate, propagate, make, roused, is_due, activated, woken_at}

-- whether an update is activated and no older activated one names a signal that it names (clause 11.4.1; the free order between signals: profile)
abbrev pub is_first : List Update → ℕ → Update → Bool
is_first updates i u = u.active && not (list_any (λ (older : Update). older.active && shares older.what u.what) (take i updates))

abbrev pub if_some : {A : Type 0} → (A → Bool) → Option A → Bool
if_some f None = false
if_some f (Some x) = f x

-- whether an active event is left in the slot (clause 11.3)
abbrev pub is_busy : State → Bool
is_busy s =
    list_any is_going s.places || list_any (λ (x : AssignState). x.needs || is_some x.pending) s.assigns || list_any (λ (u : Update). u.active) s.updates

-- whether an inactive process is left in the slot
abbrev pub has_inactive : State → Bool
has_inactive s = list_any is_inactive s.places

-- whether a nonblocking update is due in this slot and not activated
abbrev pub has_due : State → Bool
has_due s = list_any (is_due s.time) s.updates

-- whether the move is one of this state, whatever the grain (clauses 11.3 and 11.4)
abbrev pub is_enabled : State → Move → Bool
is_enabled s (Step i) = if_some is_going (slice_get s.places i)
is_enabled s (Evaluate j) = if_some (λ (x : AssignState). x.needs) (slice_get s.assigns j)
is_enabled s (Propagate j) = if_some (λ (x : AssignState). is_some x.pending) (slice_get s.assigns j)
is_enabled s (Make i) = if_some (is_first s.updates i) (slice_get s.updates i)
is_enabled s Rouse = not (is_busy s) && has_inactive s
is_enabled s Activate = not (is_busy s) && not (has_inactive s) && has_due s
is_enabled s EndSlot = not (is_busy s) && not (has_inactive s) && not (has_due s)

abbrev pub is_any : Edge → Bool
is_any Any = true
is_any _ = false

abbrev pub is_level : EventTerm → Bool
is_level t = is_any t.edge

-- whether a statement is a control of level terms alone before a statement without timing control
abbrev pub waits_for_levels : Statement-F Statement → Bool
waits_for_levels (f.Event n terms body) = list_all is_level terms.items && not (has_control body.value)
waits_for_levels _ = false

abbrev pub is_block_body : Statement-F Statement → Bool
is_block_body (f.Forever n body) = waits_for_levels (out-Statement body.value)
is_block_body _ = false

abbrev pub is_always : ProcessKind → Bool
is_always Always = true
is_always Initial = false

-- whether a process is a combinational block: an `always` whose statement is one control of level terms before a statement without timing
-- control (profile)
abbrev pub is_combinational : Process → Bool
is_combinational p = is_always p.kind && is_block_body (out-Statement p.body)

abbrev pub is_step_of : ℕ → Move → Bool
is_step_of i (Step k) = k == i
is_step_of i _ = false

-- whether a combinational block that has taken a step after its wake keeps the move out, at grain block (profile)
abbrev pub is_kept_out : List Process → List Place → ℕ → Move → Bool
is_kept_out [] places first m = false
is_kept_out (p ∷ ps) [] first m = false
is_kept_out (p ∷ ps) (x ∷ xs) first m = is_combinational p && is_inside x && not (is_step_of first m) || is_kept_out ps xs (suc first) m

abbrev pub is_free : Grain → Parts → State → Move → Bool
is_free g.Statement d s m = true
is_free g.Block d s m = not (is_kept_out d.processes s.places 0 m)

-- whether a move is permitted in a state
abbrev pub allowed : Grain → Parts → State → Move → Bool
allowed grain d s m = not s.over && is_enabled s m && is_free grain d s m

-- the lesser of a time and another, where there is one
abbrev pub earlier : Option ℕ → ℕ → Option ℕ
earlier None t = Some t
earlier (Some u) t = Some (min u t)

-- the least time at which a delay ends
abbrev pub next_wake : Option ℕ → List Place → Option ℕ
next_wake best [] = best
next_wake best (sleeping due todo ∷ places) = next_wake (earlier best due) places
next_wake best (_ ∷ places) = next_wake best places

-- the least time at which a nonblocking update is due
abbrev pub next_update : Option ℕ → List Update → Option ℕ
next_update best [] = best
next_update best (u ∷ updates) = next_update (earlier best u.due) updates

-- the least due time
abbrev pub next_time : State → Option ℕ
next_time s = next_update (next_wake None s.places) s.updates

-- whether the execution is over at the end of a slot: it is finishing, or nothing is due (clauses 11.4 and 17.4.1)
abbrev pub ends : State → Bool
ends s = s.finishing || is_none (next_time s)

abbrev pub places_at : Bool → Option ℕ → List Place → List Place
places_at true next places = places
places_at false None places = places
places_at false (Some t) places = map (woken_at t) places

abbrev pub time_at : Bool → Option ℕ → ℕ → ℕ
time_at true next time = time
time_at false None time = time
time_at false (Some t) time = t

-- a state after the end of its slot: it is over, or time goes to the least due time and the processes that are due then are active
abbrev pub after_slot : State → State
after_slot s = record s {
  places = places_at (ends s) (next_time s) s.places;
  calls = [];
  time = time_at (ends s) (next_time s) s.time;
  over = ends s;
}

-- the state after a move; total, and meant where the move is allowed
abbrev pub apply : Move → State → State
apply (Step i) s = stepped s i (slice_get s.places i)
apply (Evaluate j) s = evaluate s j (slice_get s.assigns j)
apply (Propagate j) s = propagate s j (slice_get s.assigns j)
apply (Make i) s = make s i (slice_get s.updates i)
apply Rouse s = record s { places = map roused s.places }
apply Activate s = record s { updates = map (activated s.time) s.updates }
apply EndSlot s = after_slot s

-- the state after a list of moves, the newest first
abbrev pub after : Parts → List Move → State
after d [] = start d
after d (m ∷ before) = apply m (after d before)

-- each move was allowed where it was made: an execution (clause 11)
abbrev pub Legal : Grain → Parts → List Move → Type 0
Legal grain d [] = Unit {0}
Legal grain d (m ∷ before) = Legal grain d before × (allowed grain d (after d before) m ≡ true)

-- the line of a `$strobe` call at the end of its slot, of this store and this time (clause 17.1.2)
abbrev pub strobe_line : Called → Store → ℕ → Line
strobe_line c store time = record { by = c.by; text = full_line c.call store time }

-- the lines of the `$strobe` calls of a slot, in the order of the calls
abbrev pub strobe_lines : State → List Line
strobe_lines s = map (λ c. strobe_line c s.store s.time) s.calls

-- the slot that a move ends
abbrev pub ended_slot : Move → State → List Slot
ended_slot EndSlot s = record { time = s.time; store = s.store; lines = strobe_lines s } ∷ []
ended_slot _ s = []

-- the slots that ended, the earliest first
abbrev pub slots : Parts → List Move → List Slot
slots d [] = []
slots d (m ∷ before) = slots d before ++ ended_slot m (after d before)

-- a line of a process, where there is one
abbrev pub line_by : ℕ → Option (List ℕ) → List Line
line_by by None = []
line_by by (Some text) = record { by = by; text = text } ∷ []

-- the line of a `$display` that the step of a process makes (clause 17.1.1)
abbrev pub step_lines : State → ℕ → Option Place → List Line
step_lines s i None = []
step_lines s i (Some place) = line_by i (step (todo_of place) s.store s.time).line

-- the lines that a move makes: a `$display` makes its line when it runs, a `$strobe` at the end of its slot (clauses 17.1.1 and 17.1.2)
abbrev pub move_lines : Move → State → List Line
move_lines (Step i) s = step_lines s i (slice_get s.places i)
move_lines EndSlot s = strobe_lines s
move_lines _ s = []

-- the lines that an execution makes, the earliest first
abbrev pub lines_of : Parts → List Move → List Line
lines_of d [] = []
lines_of d (m ∷ before) = lines_of d before ++ move_lines m (after d before)

-- whether an execution is complete to a moment: it is over, or its time is past it
abbrev pub is_complete : ℕ → State → Bool
is_complete until s = s.over || nat_lt until s.time

abbrev pub is_by : ℕ → Slot → Bool
is_by until slot = leb slot.time until

abbrev pub finish_time : ℕ → State → Option ℕ
finish_time until s = if s.over && s.finishing && leb s.time until then Some s.time else None

-- the trace of an execution to a moment: the slots at or before it that ended, and the slot at or before it in which `$finish` took effect
abbrev pub trace : Parts → List Move → ℕ → Trace
trace d moves until = record { slots = filter (is_by until) (slots d moves); finish = finish_time until (after d moves) }
