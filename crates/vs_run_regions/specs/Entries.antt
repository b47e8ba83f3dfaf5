-- How an update enters the lists and the queue.
use Rattle.std.specs.Prelude.{ℕ, ◌==◌, ◌≡◌, List, [], ◌∷◌, ◌++◌, if◌then◌else◌}
use Rattle.vs_time_wheel.specs.declared.timing.Timed.{Timed}
use Rattle.vs_time_wheel.specs.Bag.{SameBag}
use Rattle.vs_process.specs.States.{Update}
use Rattle.vs_run_regions.specs.declared.item.Due.{Due}
use Rattle.vs_run_regions.specs.declared.item.Due.TheVariants.{Late}

-- the updates that enter the list of those due in the slot at a time
abbrev pub now_of : ℕ → Update → List Update
now_of time u = if u.due == time then u ∷ [] else []

-- the items that enter the queue at a time
abbrev pub later_of : ℕ → Update → List (Timed Due)
later_of time u = if u.due == time then [] else record { time = u.due; event = Late u } ∷ []

-- an update enters the list of those due in the slot, or the queue
pub record HasScheduled (update : Update) (time : ℕ) (due due' : List Update) (bag bag' : List (Timed Due)) : Type 0 where
  pub now : due' ≡ due ++ now_of time update
  pub later : SameBag bag' (bag ++ later_of time update)
