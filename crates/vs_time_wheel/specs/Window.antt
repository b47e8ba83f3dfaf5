-- A calendar: the events of the 256 times from now on lie in slots, those of later times in an ordered map.
use Rattle.std.specs.Prelude.{◌≡◌, ◌≢◌, ℕ, zero, suc, ◌+◌, ◌%◌, ◌^◌, ◌<◌, ◌≤◌, List, [], ◌∷◌, ◌++◌, length, None, Some}
use Rattle.std.specs.BTreeMap.{BTreeMap, get, IsOrdered}
use Rattle.std.specs.Option.{unwrap_or}
use Rattle.std.specs.Ordering.{nat_cmp}
use Rattle.vs_time_wheel.specs.declared.timing.Timed.{Timed}
use Rattle.vs_time_wheel.specs.Bag.{events_at}
use Rattle.vs_time_wheel.specs.Rotation.{slot_at}

-- events that are all due at one time
abbrev pub due_at : {E : Type 0} → ℕ → List E → List (Timed E)
due_at t [] = []
due_at t (x ∷ xs) = record { time = t; event = x } ∷ due_at t xs

-- the events of n times from t on, where the slot of a time is its remainder by 256
unfoldable pub turn_bag : {E : Type 0} → List (List E) → ℕ → ℕ → List (Timed E)
turn_bag slots t zero = []
turn_bag slots t (suc n) = due_at t (slot_at slots (t % 256)) ++ turn_bag slots (suc t) n

-- the events of the later times
abbrev pub later_bag : {E : Type 0} → List (ℕ × List E) → List (Timed E)
later_bag [] = []
later_bag (e ∷ es) = due_at e.0 e.1 ++ later_bag es

-- all events of a calendar
unfoldable pub calendar_bag : {E : Type 0} → List (List E) → BTreeMap ℕ (List E) → ℕ → List (Timed E)
calendar_bag slots later now = turn_bag slots now 256 ++ later_bag later.entries

-- a calendar is in order: 256 slots, times of 64 bits, and in the map the times behind the slots alone, each with an event
pub record IsWound {E : Type 0} (slots : List (List E)) (later : BTreeMap ℕ (List E)) (now : ℕ) : Type 0 where
  pub count : length slots ≡ 256
  pub fits : (t : ℕ) → now ≤ t → t < now + 256 → 2 ^ 64 ≤ t → slot_at slots (t % 256) ≡ []
  pub ordered : IsOrdered nat_cmp later
  pub filled : (t : ℕ) → get nat_cmp later t ≢ Some []
  pub behind : (t : ℕ) → t < now + 256 → get nat_cmp later t ≡ None

-- the same, but that times of the map may be near: the slot of such a time is free
pub record IsLoose {E : Type 0} (slots : List (List E)) (later : BTreeMap ℕ (List E)) (now : ℕ) : Type 0 where
  pub count : length slots ≡ 256
  pub fits : (t : ℕ) → now ≤ t → t < now + 256 → 2 ^ 64 ≤ t → slot_at slots (t % 256) ≡ []
  pub ordered : IsOrdered nat_cmp later
  pub filled : (t : ℕ) → get nat_cmp later t ≢ Some []
  pub not_over : (t : ℕ) → t < now → get nat_cmp later t ≡ None
  pub free : (t : ℕ) → now ≤ t → t < now + 256 → get nat_cmp later t ≢ None → slot_at slots (t % 256) ≡ []

-- the events of a time of the map
abbrev pub later_at : {E : Type 0} → BTreeMap ℕ (List E) → ℕ → List E
later_at later t = unwrap_or (get nat_cmp later t) []

-- the map gets an event at a time, behind those of that time
pub record Postpones {E : Type 0} (later later' : BTreeMap ℕ (List E)) (time : ℕ) (x : E) : Type 0 where
  pub ordered : IsOrdered nat_cmp later'
  pub here : get nat_cmp later' time ≡ Some (later_at later time ++ x ∷ [])
  pub others : (t : ℕ) → t ≢ time → get nat_cmp later' t ≡ get nat_cmp later t

-- the map loses the events of a time
pub record Loses {E : Type 0} (later later' : BTreeMap ℕ (List E)) (time : ℕ) : Type 0 where
  pub ordered : IsOrdered nat_cmp later'
  pub here : get nat_cmp later' time ≡ None
  pub others : (t : ℕ) → t ≢ time → get nat_cmp later' t ≡ get nat_cmp later t

-- no event is due before a time
abbrev pub NoneBefore : {E : Type 0} → List (List E) → BTreeMap ℕ (List E) → ℕ → ℕ → Type 0
NoneBefore slots later now time = (t : ℕ) → t < time → events_at t (calendar_bag slots later now) ≡ []
