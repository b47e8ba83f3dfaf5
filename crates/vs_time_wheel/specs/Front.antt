-- An event in front of the others of a queue.
use Rattle.std.specs.Prelude.{◌≡◌, ℕ, ◌<◌, ◌≤◌, List, [], ◌∷◌, ◌++◌, Option, None, Some}
use Rattle.vs_time_wheel.specs.declared.timing.Timed.{Timed}
use Rattle.vs_time_wheel.specs.Bag.{IsFrom, SameBag}
use Rattle.vs_time_wheel.specs.Queue.{Queue}

-- the event in front, if there is one
abbrev pub front : {E : Type 0} → Option (Timed E) → List (Timed E)
front None = []
front (Some first) = first ∷ []

-- a time is before the least time of a bag
abbrev pub IsAhead : ℕ → Option ℕ → Type 0
IsAhead time None = Unit {0}
IsAhead time (Some next) = time < next

-- an event is due at a time
abbrev pub IsDue : {E : Type 0} → ℕ → Option (Timed E) → Type 0
IsDue time None = ⊥
IsDue time (Some first) = first.time ≡ time

-- a wheel is in order: the clock of the others isn't past the time now, and no event is due before that
pub record IsInFront {E : Type 0} (first : Option (Timed E)) (others : Queue E) (now : ℕ) : Type 0 where
  pub not_over : others.clock ≤ now
  pub from_now : IsFrom now (front first ++ others.bag)

-- the event in front is due after a time, and before all others
abbrev pub MakesWay : {E : Type 0} → ℕ → Option (Timed E) → Option ℕ → Type 0
MakesWay time None least = ⊥
MakesWay time (Some first) least = (time < first.time) × IsAhead first.time least

-- a bag with an event in front gets one more
abbrev pub Adds : {E : Type 0} → Option (Timed E) → List (Timed E) → Option (Timed E) → List (Timed E) → ℕ → E → Type 0
Adds first others first' others' time x = SameBag (front first' ++ others') ((front first ++ others) ++ record { time = time; event = x } ∷ [])
