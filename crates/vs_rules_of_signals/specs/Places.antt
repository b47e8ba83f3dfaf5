-- Where signals are written and hot, by the places of maps.
use Rattle.std.specs.Prelude.{ℕ, ◌⊎◌, Bool}
use Rattle.vs_claims.specs.vs_maps.specs.Ranges.{HasSignal, now_at, later_at}
use Rattle.vs_claims.specs.vs_maps.specs.Reaches.{Chart, IsPlace}
use Rattle.vs_claims.specs.vs_maps.specs.Walks.{InHot}

-- the statement at a place writes the signal, by `=` or by `<=`
abbrev pub WritesAt : Chart → ℕ → ℕ → Type 0
WritesAt t p v = HasSignal (now_at t p) v ⊎ HasSignal (later_at t p) v

-- a map has no place that writes the signal where it is hot, by wide rules past a turn that is sure by it alone
abbrev pub NeverHotIn : Bool → Chart → ℕ → Type 0
NeverHotIn wide t v = (p : ℕ) → IsPlace t p → WritesAt t p v → InHot wide t v p → ⊥
