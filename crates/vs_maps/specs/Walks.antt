-- Walks on a map once a way of some sort has been gone.
use Rattle.std.specs.Prelude.{ℕ, ◌≡◌, ◌<◌, ◌↔◌, Bool, true, false, List, [], ◌∷◌, slice_index_or, IsTrue, nat_lt}
use Rattle.std.specs.List.{Contains}
use Rattle.vs_process.specs.Stops.{stops_tos}
use Rattle.vs_process.specs.Ways.{Pause, none, delay}
use Rattle.vs_graph.specs.Reached.{Reached}
use Rattle.vs_maps.specs.declared.along.Along.{Along}
use Rattle.vs_maps.specs.declared.along.Along.TheVariants.{Any, ZeroTime}
use Rattle.vs_maps.specs.Reaches.{Chart, IsPlace, pause_at, stops_along}
use Rattle.vs_maps.specs.Ranges.{HasSignal, now_at}

-- ways that count lead to a place, once a way from a point of this sort has been gone
pub record WalkFrom (t : Chart) (along : Along) (sort : ℕ → Type 0) (p : ℕ) : Type 0 where
  pub from : ℕ
  pub to : ℕ
  pub is_place : IsPlace t from
  pub starts : sort from
  pub leads : Contains (stops_tos t.stops from) to
  pub reached : Reached (stops_along along t.stops) (to ∷ []) p

-- whether a pause is a control
abbrev pub is_control : Pause → Bool
is_control none = false
is_control _ = true

-- the statement at a place is a control
abbrev pub HasControl : Chart → ℕ → Type 0
HasControl t p = is_control (pause_at t p) ≡ true

-- a walk leads to the place from a control, one of zero ticks too
abbrev pub InLate : Chart → ℕ → Type 0
InLate t p = WalkFrom t Any (HasControl t) p

-- one that takes no time does from a write of the signal by `=`, by wide rules past a turn that is sure by it alone
abbrev pub InHot : Bool → Chart → ℕ → ℕ → Type 0
InHot wide t v p = WalkFrom t (ZeroTime wide) (λ q. HasSignal (now_at t q) v) p

-- one along ways that count does from this place, which is of a sort
abbrev pub IsBefore : Chart → Along → (ℕ → Type 0) → ℕ → ℕ → Type 0
IsBefore t along sort q p = WalkFrom t along (λ x. (x ≡ q) × sort x) p

-- one along ways that count does from the control at this place
abbrev pub IsControlBefore : Chart → Along → ℕ → ℕ → Type 0
IsControlBefore t along q p = IsBefore t along (HasControl t) q p

-- whether a pause is a delay of more than zero ticks
abbrev pub takes_time : Pause → Bool
takes_time (delay number ticks) = nat_lt 0 ticks
takes_time _ = false

-- the statement at a place is such a delay
abbrev pub HasTime : Chart → ℕ → Type 0
HasTime t p = takes_time (pause_at t p) ≡ true

-- a walk that takes no time leads to the place from the delay at this place, of more than zero ticks, past a turn that is sure by it alone
abbrev pub IsDelayBefore : Chart → ℕ → ℕ → Type 0
IsDelayBefore t q p = IsBefore t (ZeroTime true) (HasTime t) q p

-- marks say of which numbers below one something holds
abbrev pub AreMarked : (ℕ → Type 0) → ℕ → List Bool → Type 0
AreMarked holds n marks = (k : ℕ) → k < n → (IsTrue (slice_index_or marks k false) ↔ holds k)

-- the seeds of walks of a sort: where the ways of its points lead
abbrev pub AreSeeds : Chart → (ℕ → Type 0) → List ℕ → Type 0
AreSeeds t sort seeds =
    (s : ℕ) → (Contains seeds s ↔ ((p : ℕ) × IsPlace t p × sort p × Contains (stops_tos t.stops p) s))
