-- Combinational blocks as drivers: processes that, like continuous assignments, follow what they read.
use Rattle.std.specs.Prelude.{if◌then◌else◌, ◌++◌, ℕ, ◌≡◌, Bool, true, false, Option, Some, None, List, [], ◌∷◌, map, length, slice_get}
use Rattle.std.specs.List.{Contains, list_any}
use Rattle.vs_design.specs.declared.design.Assign.{Assign}
use Rattle.vs_design.specs.declared.design.Process.{Process}
use Rattle.vs_design.specs.declared.range.BitRange.{BitRange}
use Rattle.vs_design.specs.declared.statement.EventTerm.{EventTerm}
use Rattle.vs_design.specs.declared.statement.Statement.{Statement}
use Rattle.vs_design.specs.declared.statement.Statement.TheOpen.{Statement-F}
use Rattle.vs_design.specs.declared.statement.Statement.TheOpen as f
use Rattle.vs_design.specs.declared.statement.Statement.TheViews.{out-Statement}
use Rattle.vs_design.specs.Parts.{Parts}
use Rattle.vs_design.specs.Stores.{Store, put, changes_nothing, is_changed, is_driven, start_store}
use Rattle.vs_design.specs.Uses.{covers, is_of, writes, writes_signal}
use Rattle.vs_process.specs.vs_eval.specs.Laws.{digit_of}
use Rattle.vs_process.specs.declared.gait.Gait.TheVariants.{Woken}
use Rattle.vs_process.specs.Places.{is_going, is_inactive, Place, perform, going, waiting, ended, flat, todo_of}
use Rattle.vs_process.specs.Steps.{assignment}
use Rattle.vs_process.specs.States.{Update, activated, start, terms_of}
use Rattle.vs_process.specs.Executions.{is_combinational}
use Rattle.vs_process.specs.Writes.{statement_writes}
use Rattle.vs_process.specs.Bits.{HasBit, meet_in}
use Rattle.vs_process.specs.Threads.{Thread, IsThread, any_names, turn, iterate}
use Rattle.vs_process.specs.Threads as threads

-- ---- the text of a block

-- where a process waits whose whole text repeats a control before a statement: behind the control it does the statement, and the whole again
-- (clauses 9.7.2 and 9.9.2)
abbrev pub control_place : Statement → Statement-F Statement → Place
control_place whole (f.Event n terms body) = waiting terms.items (flat body.value ++ perform whole ∷ [])
control_place whole _ = ended

abbrev pub text_place : Statement → Statement-F Statement → Place
text_place whole (f.Forever n s) = control_place whole (out-Statement s.value)
text_place whole _ = ended

abbrev pub place_for : Option Process → Place
place_for None = ended
place_for (Some p) = text_place p.body (out-Statement p.body)

-- the place of a block, by its number, at its control
abbrev pub home : Parts → ℕ → Place
home d k = place_for (slice_get d.processes k)

-- the ranges that its control names: a change of one of them wakes it there
abbrev pub control : Parts → ℕ → List BitRange
control d k = map (λ (t : EventTerm). t.range) (terms_of (home d k))

abbrev pub outputs_for : Option Process → List BitRange
outputs_for None = []
outputs_for (Some p) = statement_writes p.body

-- the ranges that it writes, those of the locals of its named blocks among them
abbrev pub outputs : Parts → ℕ → List BitRange
outputs d k = outputs_for (slice_get d.processes k)

-- whether it writes a signal, and whether it writes into a range
abbrev pub puts_out : Parts → ℕ → ℕ → Bool
puts_out d k v = list_any (is_of v) (outputs d k)

abbrev pub puts_into : Parts → ℕ → BitRange → Bool
puts_into d k r = list_any (λ (w : BitRange). meet_in d w r) (outputs d k)

-- ---- a block alone

-- a block that has just been woken, on a store of its own
abbrev pub woken_on : Parts → ℕ → Store → Thread
woken_on d k store = record { place = going Woken (todo_of (home d k)); view = store; log = []; made = []; asked = []; fin = false }

-- it is the block, woken on this store, after some steps at this time with nothing between them
pub record IsRun (d : Parts) (k time : ℕ) (store : Store) (th : Thread) : Type 0 where
  pub count : ℕ
  pub is : iterate count (turn time k) (woken_on d k store) ≡ th

-- it has come to its control
pub record Arrives (d : Parts) (k time : ℕ) (store : Store) (th : Thread) : Type 0 where
  pub run : IsRun d k time store th
  pub home : th.place ≡ home d k

-- the lengths of the words of each signal
abbrev pub sizes : Store → List (List ℕ)
sizes store = map (λ words. map length words) store

-- two stores agree on the ranges of a list, but for those of what the block itself writes
abbrev pub AgreeOn : Parts → ℕ → List BitRange → Store → Store → Type 0
AgreeOn d k inputs a b = (r : BitRange) → Contains inputs r → puts_out d k r.signal ≡ false → is_changed a b r ≡ false

-- two stores agree on the bits that the block writes
abbrev pub SameOutputs : Parts → ℕ → Store → Store → Type 0
SameOutputs d k a b = (v w n : ℕ) → list_any (covers v w n) (outputs d k) ≡ true → digit_of a v w n ≡ digit_of b v w n

-- a process is a block that follows these inputs
pub record IsBlock (d : Parts) (inputs : List BitRange) (k : ℕ) : Type 0 where
  pub process : Process
  pub is : slice_get d.processes k ≡ Some process
  pub shape : is_combinational process ≡ true
  -- its control names each bit of the design that its inputs have, but for those of what it writes itself
  pub covered : (r : BitRange) (w n : ℕ) → HasBit d r.signal w n → Contains inputs r → puts_out d k r.signal ≡ false →
      covers r.signal w n r ≡ true → list_any (covers r.signal w n) (control d k) ≡ true
  -- what it puts out is a function of its inputs, whatever the time
  pub function : (m n : ℕ) (a b : Store) (x y : Thread) → sizes a ≡ sizes (start_store d) → sizes b ≡ sizes (start_store d) →
      Arrives d k m a x → Arrives d k n b y → AgreeOn d k inputs a b → SameOutputs d k x.view y.view
  -- it makes no nonblocking update, no call of `$strobe` and no `$finish`
  pub makes : (time : ℕ) (store : Store) (th : Thread) → IsRun d k time store th → th.made ≡ []
  pub asks : (time : ℕ) (store : Store) (th : Thread) → IsRun d k time store th → th.asked ≡ []
  pub ends : (time : ℕ) (store : Store) (th : Thread) → IsRun d k time store th → th.fin ≡ false

-- ---- starts

-- what is claimed of a block that may never be woken: a run on the settled first store would give what it has; or its control names sources alone; or
-- an update of the first slot wakes it
pub data Start : Type 0 where
  cold : Start
  sources : Start
  starter : Start

-- no continuous assignment drives a signal and no block writes it
pub record IsSource (d : Parts) (blocks : ℕ → Bool) (v : ℕ) : Type 0 where
  pub undriven : is_driven d.assigns v ≡ false
  pub unwritten : (k : ℕ) → blocks k ≡ true → puts_out d k v ≡ false

-- the store in which every execution begins, with all continuous assignments settled
pub record IsSettledStart (d : Parts) (store : Store) : Type 0 where
  pub sized : sizes store ≡ sizes (start_store d)
  pub undriven : (v w n : ℕ) → list_any (λ (a : Assign). list_any (covers v w n) (writes a.target)) d.assigns ≡ false →
      digit_of store v w n ≡ digit_of (start_store d) v w n
  pub settled : (j : ℕ) (a : Assign) → slice_get d.assigns j ≡ Some a → changes_nothing store (assignment a.target a.source store 0) ≡ true

-- a run of the block on that store gives what the block has from the start
pub record StartsCold (d : Parts) (k : ℕ) : Type 0 where
  pub store : Store
  pub is : IsSettledStart d store
  pub end : Thread
  pub run : Arrives d k 0 store end
  pub same : SameOutputs d k end.view (start_store d)

-- its control names sources, and what it writes itself
abbrev pub NamesSources : Parts → (ℕ → Bool) → ℕ → Type 0
NamesSources d blocks k = (r : BitRange) → Contains (control d k) r → puts_out d k r.signal ≡ false → IsSource d blocks r.signal

-- a continuous assignment copies a signal to another one, which it alone writes, and writes nothing else
pub record IsCopy (d : Parts) (m n j : ℕ) (a : Assign) : Type 0 where
  pub is : slice_get d.assigns j ≡ Some a
  pub into : writes_signal a.target n ≡ true
  pub only : (v : ℕ) → writes_signal a.target v ≡ true → v ≡ n
  pub alone : (i : ℕ) (c : Assign) → slice_get d.assigns i ≡ Some c → writes_signal c.target n ≡ true → i ≡ j
  pub alike : slice_get (start_store d) m ≡ slice_get (start_store d) n
  pub copies : (store : Store) (time : ℕ) → sizes store ≡ sizes (start_store d) → slice_get (put store (assignment a.target a.source store time)) n ≡ slice_get store m

-- a signal is a root, or a copy of a copy of it
pub data Shows (d : Parts) (root : ℕ) : ℕ → Type 0 where
  itself : (n : ℕ) → n ≡ root → Shows d root n
  copied : (m n j : ℕ) (a : Assign) → Shows d root m → IsCopy d m n j a → Shows d root n

-- the store behind the activated ones of some updates, one after another
abbrev pub put_active : Store → List Update → Store
put_active store [] = store
put_active store (u ∷ us) = put_active (if u.active then put store u.what else store) us

-- in a store the bits that the control names and that show a root are as they were at the start
abbrev pub SameShown : Parts → ℕ → ℕ → Store → Type 0
SameShown d k root store = (n w p : ℕ) → Shows d root n → list_any (covers n w p) (control d k) ≡ true → digit_of store n w p ≡ digit_of (start_store d) n w p

-- where one process comes to a stop in the first slot, no process writes a source by `=` there, that one alone updates it, and its updates leave some bit
-- of the source that is shown to the control otherwise than it was
pub record StartsMoved (d : Parts) (blocks : ℕ → Bool) (k : ℕ) : Type 0 where
  pub root : ℕ
  pub source : IsSource d blocks root
  pub writer : ℕ
  pub untouched : (i : ℕ) (th last : Thread) → IsThread d blocks (start d) i th →
      IsThread d blocks (start d) writer last → is_going last.place ≡ false → is_inactive last.place ≡ false → threads.writes th root ≡ false
  pub alone : (i : ℕ) (th last : Thread) → IsThread d blocks (start d) i th → any_names th.made root ≡ true →
      IsThread d blocks (start d) writer last → is_going last.place ≡ false → is_inactive last.place ≡ false → i ≡ writer
  pub moved : (th : Thread) → IsThread d blocks (start d) writer th → is_going th.place ≡ false → is_inactive th.place ≡ false →
      ((n w p : ℕ) → Shows d root n → list_any (covers n w p) (control d k) ≡ true →
      digit_of (put_active (start_store d) (map (activated 0) th.made)) root w p ≡ digit_of (start_store d) n w p) → ⊥

abbrev pub StartsAs : Parts → (ℕ → Bool) → ℕ → Start → Type 0
StartsAs d blocks k cold = StartsCold d k
StartsAs d blocks k sources = NamesSources d blocks k
StartsAs d blocks k starter = StartsMoved d blocks k

-- ---- which processes they are

-- which processes are blocks, by their numbers; what each follows; and how it starts
pub record Roles : Type 0 where
  pub blocks : ℕ → Bool
  pub inputs : ℕ → List BitRange
  pub start : ℕ → Start

-- no process is one
abbrev pub no_blocks : Roles
no_blocks = record { blocks = λ k. false; inputs = λ k. []; start = λ k. cold }
