-- A bag of timed events, as the list of them in the order of their scheduling.
-- (profile: events of one time keep that order; between times no order is kept.)
use Rattle.std.specs.Prelude.{◌≡◌, ℕ, ◌<◌, List, [], ◌∷◌, ◌==◌, min, if◌then◌else◌, Option, None, Some}
use Rattle.vs_time_wheel.specs.declared.timing.Timed.{Timed}

-- the events due at a time, the oldest first
abbrev pub events_at : {E : Type 0} → ℕ → List (Timed E) → List E
events_at t [] = []
events_at t (e ∷ es) = (if e.time == t then e.event ∷ events_at t es else events_at t es)

-- two lists are one bag where they have the same events at each time, in the same order
pub record SameBag {E : Type 0} (a b : List (Timed E)) : Type 0 where
  pub at_each : (t : ℕ) → events_at t a ≡ events_at t b

-- no event is due before a time
pub record IsFrom {E : Type 0} (time : ℕ) (bag : List (Timed E)) : Type 0 where
  pub none_before : (t : ℕ) → t < time → events_at t bag ≡ []

-- the oldest event due at a time
abbrev pub oldest_at : {E : Type 0} → ℕ → List (Timed E) → Option E
oldest_at t [] = None
oldest_at t (e ∷ es) = (if e.time == t then Some e.event else oldest_at t es)

-- the bag without that event
abbrev pub without_oldest : {E : Type 0} → ℕ → List (Timed E) → List (Timed E)
without_oldest t [] = []
without_oldest t (e ∷ es) = (if e.time == t then es else e ∷ without_oldest t es)

-- the less of two times, of which the second may be missing
abbrev pub sooner : ℕ → Option ℕ → Option ℕ
sooner t None = Some t
sooner t (Some u) = Some (min t u)

-- the least time at which an event is due
abbrev pub least_time : {E : Type 0} → List (Timed E) → Option ℕ
least_time [] = None
least_time (e ∷ es) = sooner e.time (least_time es)
