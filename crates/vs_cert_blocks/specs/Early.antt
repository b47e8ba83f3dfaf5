-- Ranges that a block is sure to write first.
use Rattle.std.specs.Prelude.{ℕ, ◌≡◌, ◌≤◌, List}
use Rattle.std.specs.List.{Contains}
use Rattle.vs_design.specs.declared.range.BitRange.{BitRange}
use Rattle.vs_process.specs.Stops.{stops_tos}
use Rattle.vs_process.specs.Ways.{none}
use Rattle.vs_drivers.specs.vs_rules.specs.Paths.{Bit, Has}
use Rattle.vs_claims.specs.vs_maps.specs.Reaches.{Chart, pause_at}
use Rattle.vs_claims.specs.vs_maps.specs.Ranges.{reads_at, HasSignal}
use Rattle.vs_cert_blocks.specs.Walks.{IsWoken, IsWrittenFirst}

-- a range is one of some, and its signal isn't among some
abbrev pub IsUnseen : List BitRange → List ℕ → BitRange → Type 0
IsUnseen ranges seen r = Contains ranges r × (Contains seen r.signal → ⊥)

-- from the places of a span all ways lead to its places or to those from a least one on, no control stands there, and the signals are noted that are
-- read there
pub record IsScanned (t : Chart) (high place least : ℕ) (seen : List ℕ) : Type 0 where
  pub woken : (q : ℕ) → IsWoken t q → (least ≤ q) × (q ≤ high)
  pub leads : (a q : ℕ) → place ≤ a → a ≤ high → Contains (stops_tos t.stops a) q → (least ≤ q) × (q ≤ high)
  pub calm : (a : ℕ) → place ≤ a → a ≤ high → pause_at t a ≡ none
  pub read : (a v : ℕ) → place ≤ a → a ≤ high → HasSignal (reads_at t a) v → Contains seen v

-- each bit of some ranges is written first
abbrev pub AreEarly : Chart → List BitRange → Type 0
AreEarly t rs = (r : BitRange) (b : Bit) → Contains rs r → Has r b → IsWrittenFirst t b
