-- A short list of events in front of a calendar.
use Rattle.std.specs.Prelude.{◌≡◌, ℕ, List, [], ◌∷◌, ◌++◌, reverse, Option}
use Rattle.vs_time_wheel.specs.declared.timing.Timed.{Timed}
use Rattle.vs_time_wheel.specs.Bag.{IsFrom, least_time, sooner}
use Rattle.vs_time_wheel.specs.Queue.{Queue}

-- no event is due before one that stands in front of it
abbrev pub AreInOrder : {E : Type 0} → List (Timed E) → Type 0
AreInOrder [] = Unit {0}
AreInOrder (e ∷ es) = IsFrom e.time es × AreInOrder es

-- the first event of a list, if there is one, is due at a time
abbrev pub IsNextDue : {E : Type 0} → ℕ → List (Timed E) → Type 0
IsNextDue time [] = ⊥
IsNextDue time (e ∷ es) = e.time ≡ time

-- the least time of listed events in order, and of others with this least time
abbrev pub next_in_order : {E : Type 0} → List (Timed E) → Option ℕ → Option ℕ
next_in_order [] least = least
next_in_order (e ∷ es) least = sooner e.time least

-- the listed events, the soonest last, are in order; the least time of the calendar and that of all are known
pub record IsShortList {E : Type 0} (list : List (Timed E)) (least : Option ℕ) (calendar : Queue E) (next : Option ℕ) : Type 0 where
  pub in_order : AreInOrder (reverse list)
  pub least_late : least ≡ least_time calendar.bag
  pub least_of_all : next ≡ least_time (reverse list ++ calendar.bag)
