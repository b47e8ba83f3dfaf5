-- Combinational blocks that a run on the settled first store leaves as they are.
use Rattle.std.specs.Prelude.{ℕ, ◌≡◌, ◌↔◌, Option, Some, List, slice_get}
use Rattle.vs_design.specs.declared.statement.EventTerm.{EventTerm}
use Rattle.vs_design.specs.Parts.{Parts}
use Rattle.vs_design.specs.Stores.{Store, start_store}
use Rattle.vs_rules.specs.vs_process.specs.Places.{Todo}
use Rattle.vs_rules.specs.vs_process.specs.Steps.{wait}
use Rattle.vs_rules.specs.vs_process.specs.BlockDrivers.{IsSettledStart}
use Rattle.vs_rules.specs.Points.{Goes}
use Rattle.vs_rules.specs.Paths.{IsPoint, Writes}
use Rattle.vs_rules.specs.Blocks.{run_alone, StaysCold}

-- two stores have the same in each signal that a process writes
abbrev pub SameWritten : Parts → ℕ → Store → Store → Type 0
SameWritten d i a b = (v : ℕ) → Writes d i v → slice_get a v ≡ slice_get b v

-- run from here on this store, the process arrives at a control within so many steps, what it writes as it was at the start
pub record StaysWithin (most : ℕ) (d : Parts) (i : ℕ) (behind : Todo) (settled : Store) : Type 0 where
  pub store : Store
  pub arrives : run_alone most behind settled ≡ Some store
  pub same : SameWritten d i store (start_store d)

-- run from after each of its controls, it stays as it is
abbrev pub StaysAtEach : Parts → ℕ → Type 0
StaysAtEach d i = (k l : Todo) (number : ℕ) (terms : List EventTerm) → IsPoint d i k → Goes k (wait number terms l) → StaysCold d i l

-- there it waits, and after that has this to do
pub record IsAfterControl (d : Parts) (i : ℕ) (behind : Todo) : Type 0 where
  pub control : Todo
  pub number : ℕ
  pub terms : List EventTerm
  pub point : IsPoint d i control
  pub goes : Goes control (wait number terms behind)

-- the store in which executions begin, and that store with the continuous assignments settled, where it can be
pub record AreFirst (d : Parts) (start : Store) (settled : Option Store) : Type 0 where
  pub start_is : start ≡ start_store d
  pub settled_is : (store : Store) → (IsSettledStart d store ↔ settled ≡ Some store)
