-- Ranges by their signals.
use Rattle.std.specs.Prelude.{ℕ, ◌≡◌, ◌<◌, ◌≤◌, ◌↔◌, List, get_or, length}
use Rattle.std.specs.List.{Contains}
use Rattle.vs_design.specs.declared.range.BitRange.{BitRange}

-- some ranges are those of a signal among others
abbrev pub AreOf : List BitRange → ℕ → List BitRange → Type 0
AreOf all v some = (r : BitRange) → (Contains some r ↔ (Contains all r × (r.signal ≡ v)))

-- so many of some ranges are of signals before one: the first
pub record AreBelow (rs : List BitRange) (v n : ℕ) : Type 0 where
  pub few : n ≤ length rs
  pub before : (k : ℕ) (r : BitRange) → k < n → (get_or rs k r).signal < v
  pub others : (k : ℕ) (r : BitRange) → n ≤ k → k < length rs → v ≤ (get_or rs k r).signal

-- so many of them are of it, or of signals before it: the first
pub record AreUpTo (rs : List BitRange) (v n : ℕ) : Type 0 where
  pub few : n ≤ length rs
  pub up_to : (k : ℕ) (r : BitRange) → k < n → (get_or rs k r).signal ≤ v
  pub others : (k : ℕ) (r : BitRange) → n ≤ k → k < length rs → v < (get_or rs k r).signal
