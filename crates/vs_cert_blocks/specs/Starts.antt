-- Places from which walks decide whether the bits of a signal are written first.
use Rattle.std.specs.Prelude.{ℕ, ◌≡◌, ◌⊎◌, Option, Some, None, List, [], ◌∷◌, ⊤}
use Rattle.std.specs.BTreeMap.{BTreeMap, get}
use Rattle.std.specs.List.{Contains}
use Rattle.std.specs.Ordering.{nat_cmp}
use Rattle.vs_graph.specs.Reached.{Reached}
use Rattle.vs_drivers.specs.vs_rules.specs.Paths.{Bit}
use Rattle.vs_claims.specs.vs_maps.specs.Reaches.{Chart}
use Rattle.vs_cert_blocks.specs.Walks.{open_tos, IsClear, IsWrittenFirst}

-- wherever walks lead from some places on which nothing is sure to write a bit, no bit of its signal is read, and there is no control
abbrev pub IsClearFrom : Chart → Bit → List ℕ → Type 0
IsClearFrom t b seeds = (q : ℕ) → Reached (open_tos b t.stops) seeds q → IsClear t b.signal q

-- where that is so from a place, the bits of a signal are written first
abbrev pub DecidesAt : Chart → ℕ → ℕ → Type 0
DecidesAt t v p = (b : Bit) → b.signal ≡ v → IsClearFrom t b (p ∷ []) → IsWrittenFirst t b

-- the same of each signal that isn't among some
abbrev pub IsJoin : Chart → List ℕ → Option ℕ → Type 0
IsJoin t seen None = ⊤
IsJoin t seen (Some p) = (v : ℕ) → (Contains seen v → ⊥) → DecidesAt t v p

-- signals with such a place
abbrev pub AreStarts : Chart → BTreeMap ℕ ℕ → Type 0
AreStarts t starts = (v p : ℕ) → get nat_cmp starts v ≡ Some p → DecidesAt t v p

-- signals that aren't among some were given a place; and where there is one
abbrev pub ArePut : BTreeMap ℕ ℕ → BTreeMap ℕ ℕ → List ℕ → ℕ → Type 0
ArePut old new seen p = (v q : ℕ) → get nat_cmp new v ≡ Some q → (get nat_cmp old v ≡ Some q) ⊎ ((q ≡ p) × (Contains seen v → ⊥))

abbrev pub ArePutAt : BTreeMap ℕ ℕ → BTreeMap ℕ ℕ → List ℕ → Option ℕ → Type 0
ArePutAt old new seen None = (v q : ℕ) → get nat_cmp new v ≡ Some q → get nat_cmp old v ≡ Some q
ArePutAt old new seen (Some p) = ArePut old new seen p
