-- Walks in graphs.
use Rattle.std.specs.Prelude.{ℕ, ◌+◌, ◌≡◌, ◌<◌, ◌↔◌, ◌⊎◌, Bool, true, false, List, [], length, slice_index_or, slice_set, IsTrue}
use Rattle.std.specs.List.{Contains}
use Rattle.vs_graph.specs.Owed.{owed}

-- a walk leads to the node from one of the seeds
pub data Reached (nexts : ℕ → List ℕ) (seeds : List ℕ) : ℕ → Type 0 where
  begins : (a : ℕ) → Contains seeds a → Reached nexts seeds a
  goes_on : (a b : ℕ) → Reached nexts seeds a → Contains (nexts a) b → Reached nexts seeds b

-- the marks of the nodes below a number are those of the nodes that a walk leads to
abbrev pub AreReached : (ℕ → List ℕ) → List ℕ → ℕ → List Bool → Type 0
AreReached nexts seeds n marks = (k : ℕ) → k < n → (IsTrue (slice_index_or marks k false) ↔ Reached nexts seeds k)

-- a node that was not marked is marked
abbrev pub IsMarkedNow : ℕ → List Bool → List Bool → Type 0
IsMarkedNow node old new = (node < length old) × (slice_index_or old node true ≡ false) × (new ≡ slice_set old node true)

-- the marks stay; the node was marked, where it is one
abbrev pub WasMarked : ℕ → List Bool → List Bool → Type 0
WasMarked node old new = (new ≡ old) × (node < length old → slice_index_or old node false ≡ true)

-- how many nodes aren't marked
abbrev pub unmarked : List Bool → ℕ
unmarked marks = owed (λ k. []) 0 marks

-- nodes are marked, and those that weren't marked before stand at a list's end
pub record AreMarkedNow (nodes : List ℕ) (old : List Bool) (before : List ℕ) (new : List Bool) (after : List ℕ) : Type 0 where
  pub long : length new ≡ length old
  pub kept : (k : ℕ) → slice_index_or old k false ≡ true → slice_index_or new k false ≡ true
  pub marked : (k : ℕ) → Contains nodes k → k < length old → slice_index_or new k false ≡ true
  pub only : (k : ℕ) → slice_index_or new k false ≡ true → (slice_index_or old k false ≡ true) ⊎ Contains nodes k
  pub stay : (k : ℕ) → Contains before k → Contains after k
  pub come : (k : ℕ) → Contains after k → Contains before k ⊎ (Contains nodes k × (k < length old))
  pub fresh : (k : ℕ) → slice_index_or new k false ≡ true → (slice_index_or old k false ≡ true) ⊎ Contains after k
  pub as_many : length after + unmarked new ≡ length before + unmarked old
