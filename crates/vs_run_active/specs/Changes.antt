-- Which words and signals a move may change.
use Rattle.std.specs.Prelude.{ℕ, ◌==◌, ◌≡◌, ◌<◌, ◌*◌, false, List, length, slice_get}
use Rattle.std.specs.List.{list_any}
use Rattle.vs_design.specs.Stores.{Store}
use Rattle.vs_process.specs.declared.changes.Change.{Change}
use Rattle.vs_vcd_writing.specs.Marks.{is_marked}

-- marks behind those of some words: as many, and a signal without a mark had none before, and none of these words is of it
pub record MarkWords (old new : List ℕ) (changes : List Change) : Type 0 where
  pub len : length new ≡ length old
  pub marked : (v : ℕ) → is_marked new v ≡ false →
      (is_marked old v ≡ false) × (v < 512 * length old → list_any (λ (c : Change). c.signal == v) changes ≡ false)

-- marks behind a move: as many, and a signal without a mark had none before, and is in the store behind the move as in the one before it
pub record MarkChanges (old new : List ℕ) (before behind : Store) : Type 0 where
  pub len : length new ≡ length old
  pub marked : (v : ℕ) → is_marked new v ≡ false → v < 512 * length old → (is_marked old v ≡ false) × (slice_get behind v ≡ slice_get before v)
