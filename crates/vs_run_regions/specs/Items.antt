-- Items of an event queue: ends of delays and late updates.
use Rattle.std.specs.Prelude.{ℕ, List, [], ◌∷◌}
use Rattle.vs_time_wheel.specs.declared.timing.Timed.{Timed}
use Rattle.vs_process.specs.States.{Update}
use Rattle.vs_run_regions.specs.declared.item.Due.{Due}
use Rattle.vs_run_regions.specs.declared.item.Due.TheVariants.{Wake, Late}

-- the processes whose delay ends, of a list of items
abbrev pub wakes : List Due → List ℕ
wakes [] = []
wakes (Wake process ∷ items) = process ∷ wakes items
wakes (Late update ∷ items) = wakes items

-- the updates of a list of items
abbrev pub lates : List Due → List Update
lates [] = []
lates (Wake process ∷ items) = lates items
lates (Late update ∷ items) = update ∷ lates items

-- the end of a delay before others, where the item is one
abbrev pub sleeper : ℕ → Due → List (Timed ℕ) → List (Timed ℕ)
sleeper time (Wake process) others = record { time = time; event = process } ∷ others
sleeper time (Late update) others = others

-- the ends of delays in a bag
abbrev pub sleepers_of : List (Timed Due) → List (Timed ℕ)
sleepers_of [] = []
sleepers_of (e ∷ es) = sleeper e.time e.event (sleepers_of es)
