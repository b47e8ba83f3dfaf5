-- Ranks of the places of maps, and what they tell of where signals are hot.
use Rattle.std.specs.Prelude.{ℕ, ◌≡◌, ◌+◌, ◌<◌, ◌≤◌, false, Some, List, get_or, length, slice_get}
use Rattle.std.specs.List.{Contains}
use Rattle.vs_process.specs.Stops.{stops_tos}
use Rattle.vs_maps.specs.vs_rules.specs.Claims.{IsWriter}
use Rattle.vs_claims.specs.vs_maps.specs.declared.along.Along.TheVariants.{ZeroTime}
use Rattle.vs_claims.specs.vs_maps.specs.Reaches.{Chart, IsPlace, places, stops_along}
use Rattle.vs_claims.specs.Facts.{Case}
use Rattle.vs_graph.specs.Rows.{row}
use Rattle.vs_rules_of_signals.specs.declared.ranks.Ranks.{Ranks}
use Rattle.vs_rules_of_signals.specs.Places.{WritesAt}

-- the rank of a place; one past the end has 0
abbrev pub rank_of : List ℕ → ℕ → ℕ
rank_of ranks p = get_or ranks p 0

-- no way that takes no time leads from a place to a lower rank
abbrev pub RisesFrom : Chart → List ℕ → ℕ → Type 0
RisesFrom t ranks a = (b : ℕ) → Contains (stops_along (ZeroTime false) t.stops a) b → rank_of ranks a ≤ rank_of ranks b

-- none does from any place
abbrev pub Rises : Chart → List ℕ → Type 0
Rises t ranks = (a : ℕ) → a < places t → RisesFrom t ranks a

-- these are ranks of the places of a map
abbrev pub AreRanks : Chart → Ranks → Type 0
AreRanks t x = Rises t x.by_text.items × Rises t x.against_text.items

-- a place has a lower rank than another by the text, and no higher one by the other order
abbrev pub IsBelow : Ranks → ℕ → ℕ → Type 0
IsBelow x p q = (rank_of x.by_text.items p < rank_of x.by_text.items q) × (rank_of x.against_text.items p ≤ rank_of x.against_text.items q)

-- all ways from a place lead to such others
abbrev pub GoesUp : Chart → Ranks → ℕ → Type 0
GoesUp t x p = (q : ℕ) → Contains (stops_tos t.stops p) q → IsBelow x p q

-- by the text the second of two places comes first, by the other order the first does
abbrev pub IsApart : Ranks → ℕ → ℕ → Type 0
IsApart x p q =
    (rank_of x.by_text.items q < rank_of x.by_text.items p) × (rank_of x.against_text.items p < rank_of x.against_text.items q)

-- so much is told of the place of a number in a list
abbrev pub ApartAt : Chart → Ranks → List ℕ → ℕ → Type 0
ApartAt t x row k = GoesUp t x (get_or row k 0) × (k + 1 < length row → IsApart x (get_or row k 0) (get_or row (k + 1) 0))

-- a list has the points of its writer's text at which a signal is written
abbrev pub ArePlacesOf : Case → ℕ → List ℕ → Type 0
ArePlacesOf f v row = (i : ℕ) (t : Chart) → slice_get f.charts i ≡ Some t → IsWriter f.design f.claims v i →
    (p : ℕ) → IsPlace t p → WritesAt t p v → Contains row p

-- rows are such lists of the signals, in their order
abbrev pub AreAllPlaces : Case → List (List ℕ) → Type 0
AreAllPlaces f table = (v : ℕ) → v < length table → ArePlacesOf f v (row table v)

-- these are the ranks of a process, by its number
abbrev pub AreRanksOf : Case → ℕ → Ranks → Type 0
AreRanksOf f i x = (t : Chart) → slice_get f.charts i ≡ Some t → AreRanks t x

-- these are those of the processes, in their order
abbrev pub AreAllRanks : Case → List Ranks → Type 0
AreAllRanks f ranks = (i : ℕ) (x : Ranks) → slice_get ranks i ≡ Some x → AreRanksOf f i x

-- what is kept of the writes of signals
pub record KeepsWrites (f : Case) (table : List (List ℕ)) (ranks : List Ranks) : Type 0 where
  pub own : AreAllPlaces f table
  pub ranked : AreAllRanks f ranks
