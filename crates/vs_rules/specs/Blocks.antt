-- The rules of combinational blocks alone.
use Rattle.std.specs.Prelude.{ℕ, zero, suc, ◌≡◌, ◌⊎◌, Bool, true, false, Option, Some, None, List, [], ◌∷◌, slice_get}
use Rattle.std.specs.List.{list_any}
use Rattle.vs_design.specs.vs_logic4.specs.declared.digit.Digit.{Digit}
use Rattle.vs_design.specs.declared.design.Process.{Process}
use Rattle.vs_design.specs.declared.range.BitRange.{BitRange}
use Rattle.vs_design.specs.declared.statement.Aim.{Aim}
use Rattle.vs_design.specs.declared.statement.Aim.TheVariants.{Fixed, Chosen}
use Rattle.vs_design.specs.declared.statement.CallKind.{CallKind}
use Rattle.vs_design.specs.declared.statement.CallKind.TheVariants.{Display, Strobe}
use Rattle.vs_design.specs.declared.statement.EventTerm.{EventTerm}
use Rattle.vs_design.specs.declared.statement.Statement.{Statement}
use Rattle.vs_design.specs.declared.statement.Statement.TheOpen.{Statement-F}
use Rattle.vs_design.specs.declared.statement.Statement.TheViews.{out-Statement}
use Rattle.vs_design.specs.declared.statement.Target.{Target}
use Rattle.vs_design.specs.declared.expression.Typed.{Typed}
use Rattle.vs_design.specs.Parts.{Parts}
use Rattle.vs_design.specs.Stores.{Store, start_store}
use Rattle.vs_design.specs.Uses.{covers, slice_range}
use Rattle.vs_process.specs.declared.moves.Grain.TheVariants as g
use Rattle.vs_process.specs.Executions.{is_combinational}
use Rattle.vs_process.specs.Places.{perform, Todo}
use Rattle.vs_process.specs.Steps.{Next, on, after, wait, step}
use Rattle.vs_process.specs.BlockDrivers.{IsSettledStart}
use Rattle.vs_process.specs.Threads.{store_after}
use Rattle.vs_rules.specs.Claims.{nonblocking, both, IsSequential, IsWide}
use Rattle.vs_rules.specs.Points.{Goes, first_todo}
use Rattle.vs_rules.specs.Claims.{Claims, Start, cold, sources, starter, HasStart, IsBlock, IsDelay, IsWriter, HasMode}
use Rattle.vs_rules.specs.Paths.{Bit, IsBit, Has, Lists, reads_of, ReadsNow, WritesAny, IsPoint, IsSlot0, is_plain, Writes, HasTerm}
use Rattle.vs_rules.specs.Drivers.{block, DriverNeeds, Names, IsSource, Passes}
use Rattle.vs_rules.specs.Constants.{GivesDigit, IsKnown}
use Rattle.vs_rules.specs.Copies.{IsCopy}

-- ---- K5: the outputs of a block are a function of what its control names

-- whether the statement is a `<=`, a `$strobe` or a `$finish`
abbrev pub is_strobe : CallKind → Bool
is_strobe Display = false
is_strobe Strobe = true

abbrev pub is_late_effect : Statement-F Statement → Bool
is_late_effect (Statement-F.Later n ticks t e) = true
is_late_effect (Statement-F.Call n c) = is_strobe c.kind
is_late_effect (Statement-F.Finish n) = true
is_late_effect _ = false

abbrev pub has_late_effect : Todo → Bool
has_late_effect (perform s ∷ rest) = is_late_effect (out-Statement s)
has_late_effect _ = false

-- whether a place is sure to have the bit: one with constant indices that has it
abbrev pub is_sure : Bit → Aim → Bool
is_sure b (Fixed s) = covers b.signal b.word b.place (slice_range s)
is_sure b (Chosen s word low) = false

-- whether the statement at a point is sure to write the bit: a `=`, one of whose places is sure to have it
abbrev pub statement_surely : Bit → Statement-F Statement → Bool
statement_surely b (Statement-F.Assign n t e) = list_any (is_sure b) t.parts.items
statement_surely b _ = false

abbrev pub todo_surely : Bit → Todo → Bool
todo_surely b (perform s ∷ rest) = statement_surely b (out-Statement s)
todo_surely b _ = false

-- a path leads from behind the control of a block to a point, on which nothing is sure to write the bit
pub data Unwritten (d : Parts) (i : ℕ) (b : Bit) : Todo → Type 0 where
  begins : (k l : Todo) (number : ℕ) (terms : List EventTerm) → IsPoint d i k → Goes k (wait number terms l) → Unwritten d i b l
  goes_on : (k l : Todo) → Unwritten d i b k → todo_surely b k ≡ false → Goes k (on l) → Unwritten d i b l

pub record K5 (d : Parts) (c : Claims) (i : ℕ) : Type 0 where
  -- there is one at grain `block` alone
  pub grain : IsBlock d c i → c.grain ≡ g.Block
  -- it is an `always` whose statement is one control with level terms alone, before a statement without timing control
  pub shape : (p : Process) → IsBlock d c i → slice_get d.processes i ≡ Some p → is_combinational p ≡ true
  -- its text has no `<=`, no `$strobe` and no `$finish`, whatever bits they touch
  pub quiet : (k : Todo) → IsBlock d c i → IsPoint d i k → has_late_effect k ≡ false
  -- each bit of the design that it reads is one of its outputs, or its control names it
  pub covered : (r : BitRange) (b : Bit) → IsBlock d c i → Lists d (reads_of d i) r → IsBit d b → Has r b →
      Writes d i b.signal ⊎ ((t : EventTerm) × HasTerm d i t × Has t.range b)
  -- on every path each bit of its outputs is written before it reads any bit of that output
  pub before_reads : (b : Bit) (k : Todo) (r : BitRange) → IsBlock d c i → IsBit d b → Writes d i b.signal → Unwritten d i b k →
      ReadsNow d k r → r.signal ≡ b.signal → ⊥
  -- and before it is back at its control
  pub before_end : (b : Bit) (k : Todo) (next : Next) → IsBlock d c i → IsBit d b → Writes d i b.signal → Unwritten d i b k →
      Goes k next → is_plain next ≡ false → ⊥

-- ---- K11: a block that never ran has the outputs that a run would give it

-- cold: the initial state, settled

-- a process run alone for so many steps at most, to its next arrival at an event control: the store there, where it arrives
abbrev pub arrived : Next → (Todo → Store → Option Store) → Store → Option Store
arrived (on l) rest store = rest l store
arrived (after number ticks l) rest store = None
arrived (wait number terms l) rest store = Some store

abbrev pub run_alone : ℕ → Todo → Store → Option Store
run_alone zero k store = None
run_alone (suc most) k store = arrived (step k store 0).next (λ l new. run_alone most l new) (store_after store (step k store 0).write)

-- run from right after its control, on the store in which variables are x and the continuous assignments settled, it arrives there again within 10,000 steps,
-- its outputs as they were
pub record StaysCold (d : Parts) (i : ℕ) (behind : Todo) : Type 0 where
  pub settled : Store
  pub is : IsSettledStart d settled
  pub store : Store
  pub arrives : run_alone 10000 behind settled ≡ Some store
  pub same : (v : ℕ) → Writes d i v → slice_get store v ≡ slice_get (start_store d) v

pub record IsCold (d : Parts) (c : Claims) (i : ℕ) : Type 0 where
  pub stays : (k l : Todo) (number : ℕ) (terms : List EventTerm) → IsPoint d i k → Goes k (wait number terms l) → StaysCold d i l
  -- no driver that its cone passes through has start `starter`
  pub no_starter : (j : ℕ) (r : BitRange) → DriverNeeds d (block i) r → Passes d c (block j) r → HasStart d c j starter → ⊥

-- sources: its control names sources and its own outputs alone
abbrev pub WaitsForSources : Parts → Claims → ℕ → Type 0
WaitsForSources d c i = (r : BitRange) → Names d i r → IsSource d c r.signal ⊎ Writes d i r.signal

-- starter: a signal is the variable, or a net that copies it, at the same size
pub data CopiesWhole (d : Parts) (g : ℕ) : ℕ → Type 0 where
  itself : CopiesWhole d g g
  copy : (v u : ℕ) → IsCopy d v u → CopiesWhole d g u → CopiesWhole d g v

-- the control of a block names a bit of the variable, itself or by way of a copy
pub record NamesBit (d : Parts) (i g : ℕ) (b : Bit) : Type 0 where
  pub range : BitRange
  pub names : Names d i range
  pub copies : CopiesWhole d g range.signal
  pub of : b.signal ≡ g
  pub is : IsBit d b
  pub has : Has range (record { signal = range.signal; word = b.word; place = b.place })

-- the `<=` that a statement is, with its delay
abbrev pub statement_update : Statement-F Statement → Option (ℕ × Target × Typed)
statement_update (Statement-F.Later n ticks target value) = Some (ticks.count, target, value)
statement_update _ = None

abbrev pub todo_update : Todo → Option (ℕ × Target × Typed)
todo_update (perform s ∷ rest) = statement_update (out-Statement s)
todo_update _ = None

-- the statement at a point gives the variable by `<=` without delay, at constant indices, a constant with a known bit among those that the control
-- of the block names
pub record Begins (d : Parts) (i g : ℕ) (k : Todo) : Type 0 where
  pub target : Target
  pub value : Typed
  pub is : todo_update k ≡ Some (0, target, value)
  pub bit : Bit
  pub named : NamesBit d i g bit
  pub digit : Digit
  pub known : IsKnown digit
  pub gives : GivesDigit target value bit digit

-- a zero-time path leads from the start of a process to a point, on which no such write stands
pub data Missing (d : Parts) (i g w : ℕ) : Todo → Type 0 where
  begins : Missing d i g w (first_todo d w)
  goes_on : (k l : Todo) → Missing d i g w k → (Begins d i g k → ⊥) → Goes k (on l) → Missing d i g w l
  waits : (k l : Todo) (number : ℕ) → Missing d i g w k → Goes k (after number 0 l) → Missing d i g w l

-- a variable of mode nonblocking with a writer of kind delay, in version 3 of mode both too, and with one of kind edge or mixed too
abbrev pub MayStart : Parts → Claims → ℕ → ℕ → Type 0
MayStart d c g w = (HasMode d c g nonblocking × IsDelay d c w) ⊎ (IsWide c × (HasMode d c g nonblocking ⊎ HasMode d c g both) × IsSequential d c w)

-- such a variable, which its writer is sure to change for the block in the first slot
pub record IsStarted (d : Parts) (c : Claims) (i g w : ℕ) : Type 0 where
  pub may : MayStart d c g w
  pub writer : IsWriter d c g w
  -- the control names it, itself or by way of a copy
  pub named : (r : BitRange) × Names d i r × CopiesWhole d g r.signal
  -- each of its writes there is such a one
  pub only : (k : Todo) → IsSlot0 d false w k → WritesAny d k g → Begins d i g k
  -- on every path, before the end and before a control that takes time
  pub before_end : Missing d i g w [] → ⊥
  pub before_delay : (k l : Todo) (number ticks : ℕ) → Missing d i g w k → Goes k (after number (suc ticks) l) → ⊥
  pub before_wait : (k l : Todo) (number : ℕ) (terms : List EventTerm) → Missing d i g w k → Goes k (wait number terms l) → ⊥

abbrev pub HasStarter : Parts → Claims → ℕ → Type 0
HasStarter d c i = (g : ℕ) × (w : ℕ) × IsStarted d c i g w

abbrev pub Starts : Parts → Claims → ℕ → Start → Type 0
Starts d c i cold = IsCold d c i
Starts d c i sources = WaitsForSources d c i
Starts d c i starter = HasStarter d c i

abbrev pub K11 : Parts → Claims → ℕ → Type 0
K11 d c i = (start : Start) → HasStart d c i start → Starts d c i start
