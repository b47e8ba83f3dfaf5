-- What makes traces independent of the order of steps, and that they are.
use Rattle.std.specs.Prelude.{ℕ, ◌≡◌, ◌<◌, ◌⊎◌, Bool, true, false, Some, List, [], ◌∷◌, get_or, slice_get}
use Rattle.std.specs.List.{Contains}
use Rattle.vs_design.specs.declared.design.Assign.{Assign}
use Rattle.vs_design.specs.declared.range.BitRange.{BitRange}
use Rattle.vs_design.specs.Parts.{Parts}
use Rattle.vs_design.specs.Traces.{SameTrace}
use Rattle.vs_design.specs.Uses.{reads, writes as target_writes, writes_signal}
use Rattle.vs_design.specs.WellFormed.{WellFormed}
use Rattle.vs_process.specs.Places.{ended, is_going}
use Rattle.vs_process.specs.declared.moves.Grain.{Grain}
use Rattle.vs_process.specs.declared.moves.Grain.TheVariants.{Block}
use Rattle.vs_process.specs.declared.moves.Move.{Move}
use Rattle.vs_process.specs.declared.moves.Move.TheVariants.{EndSlot}
use Rattle.vs_process.specs.States.{State, AssignState, start}
use Rattle.vs_process.specs.Executions.{after, Legal, is_complete, trace}
use Rattle.vs_process.specs.Bits.{SharesBit}
use Rattle.vs_process.specs.Feeds.{writes_into}
use Rattle.vs_process.specs.Edges.{Copies, IsHeard, IsRoot}
use Rattle.vs_process.specs.Threads.{Thread, Fired, found, is_timed, IsTimed, Awaits, IsThread, IsFiredBy, IsEarly, writes, any_names, place_reads}
use Rattle.vs_process.specs.BlockDrivers.{cold, starter, control, outputs, puts_out, puts_into, IsSource, IsBlock, StartsAs, Roles}

-- two executions that are complete to a moment have the same trace to it, whatever they are
abbrev pub Independent : Grain → Parts → Type 0
Independent grain d =
    (until : ℕ) (xs ys : List Move) → Legal grain d xs → Legal grain d ys →
    is_complete until (after d xs) ≡ true → is_complete until (after d ys) ≡ true →
    SameTrace (trace d xs until) (trace d ys until)

-- a change of the signal `u` can reach a range through drivers: continuous assignments, and blocks by what their controls name
pub data Reaches (d : Parts) (blocks : ℕ → Bool) (u : ℕ) : BitRange → Type 0 where
  here : (r : BitRange) → r.signal ≡ u → Reaches d blocks u r
  through : (q r : BitRange) (j : ℕ) (a : Assign) → Reaches d blocks u q → slice_get d.assigns j ≡ Some a → Contains (reads a.source) q → writes_into d a.target r ≡ true →
      Reaches d blocks u r
  past : (q r : BitRange) (k : ℕ) → Reaches d blocks u q → blocks k ≡ true → Contains (control d k) q → puts_into d k r ≡ true →
      Reaches d blocks u r

-- a change of a range can lead to another one through drivers
pub data Leads (d : Parts) (blocks : ℕ → Bool) (q : BitRange) : BitRange → Type 0 where
  stays : (r : BitRange) → r ≡ q → Leads d blocks q r
  goes_through : (p r : BitRange) (j : ℕ) (a : Assign) → slice_get d.assigns j ≡ Some a → Contains (reads a.source) p → writes_into d a.target r ≡ true → Leads d blocks q r → Leads d blocks q p
  goes_past : (p r : BitRange) (k : ℕ) → blocks k ≡ true → Contains (control d k) p → puts_into d k r ≡ true → Leads d blocks q r → Leads d blocks q p

-- an execution that has just begun a slot
abbrev pub IsAtStart : List Move → Type 0
IsAtStart [] = Unit {0}
IsAtStart (EndSlot ∷ moves) = Unit {0}
IsAtStart (_ ∷ moves) = ⊥

-- an execution begins a slot with this state
pub record BeginsSlot (grain : Grain) (d : Parts) (b : State) : Type 0 where
  pub moves : List Move
  pub legal : Legal grain d moves
  pub at_start : IsAtStart moves
  pub is : after d moves ≡ b

-- no driver hangs on itself: each has a higher rank than those that write a bit of the design that it follows; what a block writes itself is left out
pub record IsOrdered (d : Parts) (roles : Roles) : Type 0 where
  -- of a continuous assignment, and of a block, by their numbers
  pub rank : ℕ → ℕ
  pub block_rank : ℕ → ℕ
  pub falls : (i j : ℕ) (a b : Assign) (r : BitRange) → slice_get d.assigns i ≡ Some a → slice_get d.assigns j ≡ Some b →
      Contains (reads b.source) r → SharesBit d (target_writes a.target) r → rank i < rank j
  pub falls_from_block : (k j : ℕ) (b : Assign) (r : BitRange) → roles.blocks k ≡ true → slice_get d.assigns j ≡ Some b →
      Contains (reads b.source) r → SharesBit d (outputs d k) r → block_rank k < rank j
  pub falls_to_block : (i k : ℕ) (a : Assign) (r : BitRange) → slice_get d.assigns i ≡ Some a → roles.blocks k ≡ true →
      Contains (roles.inputs k) r → puts_out d k r.signal ≡ false → SharesBit d (target_writes a.target) r → rank i < block_rank k
  pub falls_between : (l k : ℕ) (r : BitRange) → roles.blocks l ≡ true → roles.blocks k ≡ true →
      Contains (roles.inputs k) r → puts_out d k r.signal ≡ false → SharesBit d (outputs d l) r → block_rank l < block_rank k

-- the processes of a slot, each alone: no two write one signal, none writes what a block writes, and none reads what another one's write can have
-- changed, but for the signal that fired it, nor, of what drivers write, what a write of its own or a driver that the slot found unsettled can have
-- changed. What event controls wait for changes once at most, and fires each process once at most
pub record KeepsApart (d : Parts) (blocks : ℕ → Bool) (b : State) : Type 0 where
  -- two that write one signal by `=` are one
  pub only : (i k v : ℕ) (th other : Thread) → IsThread d blocks b i th → IsThread d blocks b k other →
      writes th v ≡ true → writes other v ≡ true → k ≡ i
  -- so are two that update it by `<=`
  pub only_later : (i k v : ℕ) (th other : Thread) → IsThread d blocks b i th → IsThread d blocks b k other →
      any_names th.made v ≡ true → any_names other.made v ≡ true → k ≡ i
  -- none writes or updates what a block writes
  pub outputs_alone : (i k v : ℕ) (th : Thread) → IsThread d blocks b i th → blocks k ≡ true → puts_out d k v ≡ true → writes th v ≡ false
  pub outputs_alone_later : (i k v : ℕ) (th : Thread) → IsThread d blocks b i th → blocks k ≡ true → puts_out d k v ≡ true → any_names th.made v ≡ false
  -- what one reads, no other one's `=` reaches, but where it is the very signal that fired it
  pub reads_others : (i k u : ℕ) (r : BitRange) (th other : Thread) (is : IsThread d blocks b i th) → IsThread d blocks b k other →
      Contains (place_reads th.place) r → writes other u ≡ true → Reaches d blocks u r → (k ≡ i) ⊎ IsFiredBy d blocks b i th is r.signal
  -- nor does its own, but where it reads the very signal that it wrote
  pub reads_own : (i u : ℕ) (r : BitRange) (th : Thread) → IsThread d blocks b i th →
      Contains (place_reads th.place) r → writes th u ≡ true → Reaches d blocks u r → u ≡ r.signal
  -- nor does an assignment that had to be evaluated when the slot began
  pub reads_settled : (i j u : ℕ) (r : BitRange) (th : Thread) (x : AssignState) → IsThread d blocks b i th → Contains (place_reads th.place) r →
      slice_get b.assigns j ≡ Some x → x.needs ≡ true → writes_signal x.target u ≡ true → Reaches d blocks u r → ⊥
  -- nor does a block that was active when the slot began
  pub reads_rested : (i k u : ℕ) (r : BitRange) (th : Thread) → IsThread d blocks b i th → Contains (place_reads th.place) r →
      blocks k ≡ true → is_going (get_or b.places k ended) ≡ true → puts_out d k u ≡ true → Reaches d blocks u r → ⊥
  -- a root is written by a process that waits for no event where the slot begins
  pub root_timed : (i root : ℕ) (th : Thread) → IsRoot d blocks root → IsThread d blocks b i th → writes th root ≡ true → is_timed (found blocks b i) ≡ true
  -- with one value in the slot
  pub root_once : (i root : ℕ) (th later : Thread) → IsRoot d blocks root → IsTimed blocks b i th → IsTimed blocks b i later →
      writes th root ≡ true → writes later root ≡ true → slice_get th.view root ≡ slice_get later.view root
  -- and by no `<=`
  pub root_now : (i root : ℕ) (th : Thread) → IsRoot d blocks root → IsThread d blocks b i th → any_names th.made root ≡ true → ⊥
  -- a process that waits for no event where the slot begins waits, later in the slot, for none that the slot wakes, but for a change that it made before
  pub unfired : (i : ℕ) (th : Thread) (f : Fired) → IsTimed blocks b i th → Awaits d blocks b th f → writes th f.signal ≡ false → ⊥
  -- and of all for which a process waits in the slot that waits for an event where the slot begins, the slot wakes terms of one signal
  pub fired_by_one : (i : ℕ) (th other : Thread) (f g : Fired) → is_timed (found blocks b i) ≡ false → IsThread d blocks b i th → IsThread d blocks b i other →
      Awaits d blocks b th f → Awaits d blocks b other g → f.signal ≡ g.signal

-- a disciplined design: its drivers have an order, its blocks follow what their controls name and start well, and in each slot that an execution
-- begins its processes keep apart
pub record Disciplined (grain : Grain) (d : Parts) : Type 0 where
  pub roles : Roles
  -- there are blocks at grain block alone
  pub grained : (k : ℕ) → roles.blocks k ≡ true → grain ≡ Block
  pub follows : (k : ℕ) → roles.blocks k ≡ true → IsBlock d (roles.inputs k) k
  -- no two of them write one signal
  pub exclusive : (k l v : ℕ) → roles.blocks k ≡ true → roles.blocks l ≡ true → puts_out d k v ≡ true → puts_out d l v ≡ true → k ≡ l
  pub starts : (k : ℕ) → roles.blocks k ≡ true → StartsAs d roles.blocks k (roles.start k)
  -- no block with a starter leads to one that starts cold
  pub unstarted : (k l : ℕ) (q r : BitRange) → roles.blocks k ≡ true → roles.start k ≡ cold → Contains (control d k) q → roles.blocks l ≡ true → roles.start l ≡ starter →
      puts_into d l r ≡ true → Leads d roles.blocks q r → ⊥
  pub ordered : IsOrdered d roles
  -- each signal that an event control of another process waits for has its value from a root, which no block writes
  pub edges : (v : ℕ) → IsHeard d roles.blocks v → (root : ℕ) × Copies d root v × IsSource d roles.blocks root
  pub apart : (b : State) → BeginsSlot grain d b → KeepsApart d roles.blocks b
  -- before any delay has ended no process writes what can reach the control of a block
  pub first : (i k u : ℕ) (r : BitRange) (th : Thread) → IsEarly roles.blocks (start d) i th → roles.blocks k ≡ true →
      Contains (control d k) r → writes th u ≡ true → Reaches d roles.blocks u r → ⊥

-- the traces of a disciplined design do not depend on the order in which its permitted steps are taken
abbrev pub DisciplineMakesIndependent : Type 0
DisciplineMakesIndependent = (grain : Grain) (d : Parts) → WellFormed d → Disciplined grain d → Independent grain d
