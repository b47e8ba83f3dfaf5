-- The store in which executions begin, with the continuous assignments settled.
use Rattle.std.specs.Prelude.{ℕ, ◌≡◌, ◌<◌, Bool, true, Option, Some, None, List, [], ◌∷◌, slice_get}
use Rattle.std.specs.List.{Contains, list_all, list_any}
use Rattle.vs_design.specs.declared.design.Assign.{Assign}
use Rattle.vs_design.specs.declared.range.BitRange.{BitRange}
use Rattle.vs_design.specs.Parts.{Parts}
use Rattle.vs_design.specs.Stores.{Store, changes_nothing, put}
use Rattle.vs_design.specs.Uses.{covers, reads, writes}
use Rattle.vs_rules.specs.vs_process.specs.Steps.{assignment}
use Rattle.vs_rules.specs.vs_process.specs.Bits.{HasBit}

-- a store after a continuous assignment, where there is one
abbrev pub put_assign : Option Assign → Store → Store
put_assign None store = store
put_assign (Some a) store = put store (assignment a.target a.source store 0)

-- a store after continuous assignments, by their numbers, one after another
abbrev pub put_all : List Assign → List ℕ → Store → Store
put_all assigns [] store = store
put_all assigns (j ∷ js) store = put_all assigns js (put_assign (slice_get assigns j) store)

-- whether a continuous assignment would change nothing in a store
abbrev pub is_idle : Store → Assign → Bool
is_idle store a = changes_nothing store (assignment a.target a.source store 0)

-- whether none of some would
abbrev pub are_idle : List Assign → Store → Bool
are_idle assigns store = list_all (is_idle store) assigns

-- a continuous assignment of a design, by its number, drives a bit
pub record Drives (d : Parts) (j v w n : ℕ) : Type 0 where
  pub assign : Assign
  pub is : slice_get d.assigns j ≡ Some assign
  pub covers : list_any (covers v w n) (writes assign.target) ≡ true

-- one of the first so many of a list drives it
pub record IsDrivenBefore (d : Parts) (order : List ℕ) (i v w n : ℕ) : Type 0 where
  pub place : ℕ
  pub number : ℕ
  pub below : place < i
  pub is : slice_get order place ≡ Some number
  pub drives : Drives d number v w n

-- a list has each continuous assignment of a design, after those that drive a bit that it reads
pub record IsInOrder (d : Parts) (order : List ℕ) : Type 0 where
  pub all : (j : ℕ) (a : Assign) → slice_get d.assigns j ≡ Some a → Contains order j
  pub behind : (i j y w n : ℕ) (a : Assign) (r : BitRange) → slice_get order i ≡ Some j → slice_get d.assigns j ≡ Some a →
      Contains (reads a.source) r → HasBit d r.signal w n → covers r.signal w n r ≡ true → Drives d y r.signal w n →
      IsDrivenBefore d order i r.signal w n
