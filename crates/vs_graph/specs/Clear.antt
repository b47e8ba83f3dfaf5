-- Marks of which none is set.
use Rattle.std.specs.Prelude.{ℕ, ◌≡◌, Bool, false, List, length, slice_index_or, IsTrue}

-- there are so many marks, and none is set
abbrev pub AreClear : ℕ → List Bool → Type 0
AreClear n marks = (length marks ≡ n) × ((k : ℕ) → IsTrue (slice_index_or marks k false) → ⊥)
