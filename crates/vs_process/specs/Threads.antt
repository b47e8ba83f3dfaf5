-- Threads: a process alone, within one time slot.
use Rattle.std.specs.Prelude.{◌||◌, ◌++◌, ℕ, zero, suc, ◌≡◌, Bool, true, false, Option, Some, None, List, [], ◌∷◌, map, get_or, slice_get, if◌then◌else◌}
use Rattle.std.specs.List.{list_any, Contains}
use Rattle.std.specs.declared.vec.Vec.{Vec}
use Rattle.std.specs.declared.alloc.Global.{Global}
use Rattle.vs_design.specs.vs_logic4.specs.declared.digit.Digit.{Digit}
use Rattle.vs_design.specs.declared.expression.Typed.{Typed}
use Rattle.vs_design.specs.declared.statement.Call.{Call}
use Rattle.vs_design.specs.declared.statement.CallKind.{CallKind}
use Rattle.vs_design.specs.declared.statement.CallKind.TheVariants.{Display, Strobe}
use Rattle.vs_design.specs.declared.statement.EventTerm.{EventTerm}
use Rattle.vs_design.specs.declared.statement.Statement.TheOpen.{Statement-F}
use Rattle.vs_design.specs.declared.statement.Statement.{Statement}
use Rattle.vs_design.specs.declared.statement.Statement.TheViews.{out-Statement}
use Rattle.vs_design.specs.Parts.{Parts}
use Rattle.vs_design.specs.Stores.{Store, changed_at, put}
use Rattle.vs_design.specs.declared.range.BitRange.{BitRange}
use Rattle.vs_design.specs.Statements.{all_reads, assignment_reads, call_reads}
use Rattle.vs_design.specs.Uses.{joined, reads}
use Rattle.vs_design.specs.Writes.{Write, names}
use Rattle.vs_process.specs.Places.{perform, turns, Todo, Place, going, sleeping, inactive, waiting, ended}
use Rattle.vs_process.specs.Steps.{Out, step}
use Rattle.vs_process.specs.vs_eval.specs.Waking.{wakes}
use Rattle.vs_process.specs.States.{State, Update, Called, place_after_step, updates_after, calls_after, roused, triggered}
use Rattle.vs_process.specs.Edges.{Copies, inverses, shown}

-- a process on a store of its own: where it is, its store, what it has written by blocking assignments, the updates and the calls of `$strobe`
-- that it has made, and whether it has called `$finish`
pub record Thread : Type 0 where
  pub place : Place
  pub view : Store
  pub log : List Write
  pub made : List Update
  pub asked : List Called
  pub fin : Bool

-- a store behind a step that may write
abbrev pub store_after : Store → Option Write → Store
store_after store None = store
store_after store (Some w) = put store w

abbrev pub log_after : List Write → Option Write → List Write
log_after log None = log
log_after log (Some w) = w ∷ log

-- a thread after a step of its process, of which this came
abbrev pub moved : ℕ → ℕ → Place → Out → Thread → Thread
moved time i place out th = record {
  place = place_after_step place time out.next;
  view = store_after th.view out.write;
  log = log_after th.log out.write;
  made = updates_after i time out.update th.made;
  asked = calls_after i out.call th.asked;
  fin = th.fin || out.finish;
}

abbrev pub turn_at : ℕ → ℕ → Place → Thread → Thread
turn_at time i (going gait todo) th = moved time i (going gait todo) (step todo th.view time) th
turn_at time i (inactive todo) th = record th { place = roused (inactive todo) }
turn_at time i (sleeping due todo) th = th
turn_at time i (waiting terms todo) th = th
turn_at time i ended th = th

-- a thread one turn later: a step, or the end of a delay of zero; a stopped thread stays
abbrev pub turn : ℕ → ℕ → Thread → Thread
turn time i th = turn_at time i th.place th

abbrev pub iterate : {A : Type 0} → ℕ → (A → A) → A → A
iterate zero f x = x
iterate (suc n) f x = f (iterate n f x)

-- what fires a process in a slot: a signal of its event control, and what that signal holds from then on
pub record Fired : Type 0 where
  pub signal : ℕ
  pub value : List (List Digit)

-- a store in which a signal has been given a value
abbrev pub given : Fired → Store → Store
given f store = changed_at (λ old. f.value) f.signal store

-- where a slot finds a process: a combinational block is a driver, and as a thread has nothing to do
abbrev pub found : (ℕ → Bool) → State → ℕ → Place
found blocks b i = if blocks i then ended else get_or b.places i ended

-- a process as the slot that begins with the state `b` finds it, or as it is fired there: it sees the change of the signal that fires it, and no
-- other one
abbrev pub opening : (ℕ → Bool) → State → ℕ → Option Fired → Thread
opening blocks b i None = record { place = found blocks b i; view = b.store; log = []; made = []; asked = []; fin = false }
opening blocks b i (Some f) = record { place = triggered (found blocks b i); view = given f b.store; log = []; made = []; asked = []; fin = false }

-- a thread one turn later, where a delay of zero does not end
abbrev pub early_at : ℕ → ℕ → Place → Thread → Thread
early_at time i (going gait todo) th = moved time i (going gait todo) (step todo th.view time) th
early_at time i _ th = th

abbrev pub early_turn : ℕ → ℕ → Thread → Thread
early_turn time i th = early_at time i th.place th

-- it is the process i, alone and unfired, after some turns before any delay of zero has ended
pub record IsEarly (blocks : ℕ → Bool) (b : State) (i : ℕ) (th : Thread) : Type 0 where
  pub count : ℕ
  pub is : iterate count (early_turn b.time i) (opening blocks b i None) ≡ th

-- whether a blocking assignment of the thread names a signal
abbrev pub writes : Thread → ℕ → Bool
writes th v = list_any (λ w. names w v) th.log

-- whether a process waits for no event
abbrev pub is_timed : Place → Bool
is_timed (waiting terms todo) = false
is_timed (going gait todo) = true
is_timed (sleeping due todo) = true
is_timed (inactive todo) = true
is_timed ended = true

-- it is the process i, which waits for no event where the slot begins with the state `b`, alone in the slot, after some turns
pub record IsTimed (blocks : ℕ → Bool) (b : State) (i : ℕ) (th : Thread) : Type 0 where
  pub count : ℕ
  pub timed : is_timed (found blocks b i) ≡ true
  pub is : iterate count (turn b.time i) (opening blocks b i None) ≡ th

-- the slot that begins with the state `b` makes this of the signal of a term, which wakes: a process that waits for no event writes the root of the
-- signal, and this is what the signal then shows of the root
pub record Fires (d : Parts) (blocks : ℕ → Bool) (b : State) (t : EventTerm) (f : Fired) : Type 0 where
  pub term : t.range.signal ≡ f.signal
  pub root : ℕ
  pub copies : Copies d root f.signal
  pub writer : ℕ
  pub by : Thread
  pub timed : IsTimed blocks b writer by
  pub writes : writes by root ≡ true
  pub value : shown (inverses copies) (slice_get by.view root) ≡ Some f.value
  pub wakes : wakes b.store (given f b.store) t ≡ true

-- a thread waits for a term that the slot wakes
pub record Awaits (d : Parts) (blocks : ℕ → Bool) (b : State) (th : Thread) (f : Fired) : Type 0 where
  pub terms : List EventTerm
  pub todo : Todo
  pub at : th.place ≡ waiting terms todo
  pub term : EventTerm
  pub is : Contains terms term
  pub fires : Fires d blocks b term f

-- nothing fires it, or what can fire it where the slot finds it
abbrev pub MayOpen : Parts → (ℕ → Bool) → State → ℕ → Option Fired → Type 0
MayOpen d blocks b i None = Unit {0}
MayOpen d blocks b i (Some f) = Awaits d blocks b (opening blocks b i None) f

-- it is the process i, alone in the slot that begins with the state `b`, unfired or fired, after some turns
pub record IsThread (d : Parts) (blocks : ℕ → Bool) (b : State) (i : ℕ) (th : Thread) : Type 0 where
  pub count : ℕ
  pub input : Option Fired
  pub may : MayOpen d blocks b i input
  pub is : iterate count (turn b.time i) (opening blocks b i input) ≡ th

-- it was fired by this signal
abbrev pub IsFiredBy : (d : Parts) (blocks : ℕ → Bool) (b : State) (i : ℕ) (th : Thread) → IsThread d blocks b i th → ℕ → Type 0
IsFiredBy d blocks b i th is v = (f : Fired) × (is.input ≡ Some f) × (f.signal ≡ v)

-- whether one of the updates names a signal
abbrev pub any_names : List Update → ℕ → Bool
any_names us v = list_any (λ (u : Update). names u.what v) us

-- the ranges that the expressions of a `case` item read (clause 9.5)
abbrev pub item_reads : Vec Typed Global × Statement → List BitRange
item_reads i = all_reads i.0.items

-- the ranges that the step of a statement reads: an assignment, a condition, a count, or a `case` expression and those of its items. What a call
-- prints is left out: a trace has no line of a `$display`, and that of a `$strobe` is made of the store at the end of the slot
abbrev pub own_reads : Statement-F Statement → List BitRange
own_reads (Statement-F.Null n) = []
own_reads (Statement-F.Assign n t e) = assignment_reads t e
own_reads (Statement-F.Later n ticks t e) = assignment_reads t e
own_reads (Statement-F.Call n c) = []
own_reads (Statement-F.Finish n) = []
own_reads (Statement-F.Block all) = []
own_reads (Statement-F.Delay n ticks body) = []
own_reads (Statement-F.Event n terms body) = []
own_reads (Statement-F.If n e a b) = reads e
own_reads (Statement-F.Case n kind x items) = reads x ++ joined (map item_reads items.items)
own_reads (Statement-F.While n e body) = reads e
own_reads (Statement-F.Repeat n signed e body) = reads e
own_reads (Statement-F.Forever n body) = []

-- the ranges that the next step of what is to be done reads
abbrev pub todo_reads : Todo → List BitRange
todo_reads [] = []
todo_reads (perform s ∷ rest) = own_reads (out-Statement s)
todo_reads (turns n s ∷ rest) = []

abbrev pub place_reads : Place → List BitRange
place_reads (going gait todo) = todo_reads todo
place_reads _ = []

-- the ranges that the arguments of a call read, where it is a `$display` (clause 17.1.1)
abbrev pub shown_by : CallKind → Call → List BitRange
shown_by Display c = call_reads c
shown_by Strobe c = []

-- those that the step of a statement shows
abbrev pub own_shows : Statement-F Statement → List BitRange
own_shows (Statement-F.Call n c) = shown_by c.kind c
own_shows _ = []

abbrev pub todo_shows : Todo → List BitRange
todo_shows (perform s ∷ rest) = own_shows (out-Statement s)
todo_shows _ = []

abbrev pub place_shows : Place → List BitRange
place_shows (going gait todo) = todo_shows todo
place_shows _ = []
