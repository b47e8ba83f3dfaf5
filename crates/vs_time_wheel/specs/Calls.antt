-- What a bag of timed events answers to calls.
use Rattle.std.specs.Prelude.{◌≡◌, ℕ, ◌≤◌, List, [], ◌∷◌, ◌++◌, length, take, ◌↔◌}
use Rattle.std.specs.Option.{ForSome}
use Rattle.vs_time_wheel.specs.declared.timing.Timed.{Timed}
use Rattle.vs_time_wheel.specs.declared.calls.QueueCall.{QueueCall}
use Rattle.vs_time_wheel.specs.declared.calls.QueueCall.TheVariants.{Schedule, NextTime, TakeDue, Now}
use Rattle.vs_time_wheel.specs.declared.calls.QueueAnswer.{QueueAnswer}
use Rattle.vs_time_wheel.specs.declared.calls.QueueAnswer.TheVariants.{Scheduled, Next, Due, Clock}
use Rattle.vs_time_wheel.specs.Bag.{SameBag, least_time, oldest_at, without_oldest}

-- a call may be made: its time isn't over, and nothing that is due is passed over
abbrev pub IsAllowed : {E : Type 0} → QueueCall E → List (Timed E) → ℕ → Type 0
IsAllowed (Schedule time event) bag clock = clock ≤ time
IsAllowed NextTime bag clock = Unit {0}
IsAllowed (TakeDue time) bag clock = (clock ≤ time) × ForSome (least_time bag) (λ next. time ≤ next)
IsAllowed Now bag clock = Unit {0}

-- the answer to a call
abbrev pub answer_of : {E : Type 0} → QueueCall E → List (Timed E) → ℕ → QueueAnswer E
answer_of (Schedule time event) bag clock = Scheduled
answer_of NextTime bag clock = Next (least_time bag)
answer_of (TakeDue time) bag clock = Due (oldest_at time bag)
answer_of Now bag clock = Clock clock

-- the bag that a call leaves
abbrev pub bag_after : {E : Type 0} → QueueCall E → List (Timed E) → List (Timed E)
bag_after (Schedule time event) bag = bag ++ record { time = time; event = event } ∷ []
bag_after NextTime bag = bag
bag_after (TakeDue time) bag = without_oldest time bag
bag_after Now bag = bag

-- the last time given to `take_due`, after a call
abbrev pub clock_after : {E : Type 0} → QueueCall E → ℕ → ℕ
clock_after (Schedule time event) clock = clock
clock_after NextTime clock = clock
clock_after (TakeDue time) clock = time
clock_after Now clock = clock

-- the calls may be made, each in its rotation
abbrev pub AreAllowed : {E : Type 0} → List (QueueCall E) → List (Timed E) → ℕ → Type 0
AreAllowed [] bag clock = Unit {0}
AreAllowed (call ∷ calls) bag clock = IsAllowed call bag clock × AreAllowed calls (bag_after call bag) (clock_after call clock)

-- the answer to each call, in their order
abbrev pub answers_of : {E : Type 0} → List (QueueCall E) → List (Timed E) → ℕ → List (QueueAnswer E)
answers_of [] bag clock = []
answers_of (call ∷ calls) bag clock = answer_of call bag clock ∷ answers_of calls (bag_after call bag) (clock_after call clock)

-- the bag that the calls leave
abbrev pub bag_in_the_end : {E : Type 0} → List (QueueCall E) → List (Timed E) → List (Timed E)
bag_in_the_end [] bag = bag
bag_in_the_end (call ∷ calls) bag = bag_in_the_end calls (bag_after call bag)

-- the last time given to `take_due`, after the calls
abbrev pub clock_in_the_end : {E : Type 0} → List (QueueCall E) → ℕ → ℕ
clock_in_the_end [] clock = clock
clock_in_the_end (call ∷ calls) clock = clock_in_the_end calls (clock_after call clock)

-- what some first calls leave
pub record IsAfterFirst {E : Type 0} (calls : List (QueueCall E)) (bag : List (Timed E)) (clock : ℕ) (bag' : List (Timed E)) (clock' : ℕ) : Type 0 where
  pub made : ℕ
  pub within : made ≤ length calls
  pub same_bag : SameBag bag' (bag_in_the_end (take made calls) bag)
  pub same_clock : clock' ≡ clock_in_the_end (take made calls) clock

-- two bags may be given the same calls, give the same answers to them, and stay alike
pub record AnswerAlike {E : Type 0} (calls : List (QueueCall E)) (bag : List (Timed E)) (clock : ℕ) (bag' : List (Timed E)) (clock' : ℕ) : Type 0 where
  pub allowed : AreAllowed calls bag clock ↔ AreAllowed calls bag' clock'
  pub answers : answers_of calls bag clock ≡ answers_of calls bag' clock'
  pub same_bag : SameBag (bag_in_the_end calls bag) (bag_in_the_end calls bag')
  pub same_clock : clock_in_the_end calls clock ≡ clock_in_the_end calls clock'
