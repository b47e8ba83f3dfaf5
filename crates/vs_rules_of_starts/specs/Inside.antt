-- Walks that leave out the ways from some places lead to places of a map.
use Rattle.std.specs.Prelude.{ℕ, ◌<◌, Bool, true, false, List, [], get_or, slice_index_or, if◌then◌else◌}
use Rattle.std.specs.List.{Contains, All}
use Rattle.std.proofs.lemmas.List.Elements.{All-nil, All-contains, Contains-get_or}
use Rattle.vs_rules_of_starts.specs.vs_process.specs.Stops.{LeadsIn, Stop}
use Rattle.vs_drivers.specs.vs_maps.specs.declared.along.Along.TheVariants.{ZeroTime}
use Rattle.vs_drivers.specs.vs_maps.specs.Inside.{along_in}
use Rattle.vs_drivers.specs.vs_maps.specs.Reaches.{stops_along}
use Rattle.vs_rules_of_starts.specs.Missing.{unmarked}

all_below : (xs : List ℕ) (n : ℕ) → ((q : ℕ) → Contains xs q → q < n) → All (λ q. q < n) xs
all_below xs n h k d within = h (get_or xs k d) (Contains-get_or xs k d within)

left_below : (marked : Bool) (xs : List ℕ) (n : ℕ) → All (λ q. q < n) xs → All (λ q. q < n) (if marked then [] else xs)
left_below true xs n h = All-nil (λ q. q < n)
left_below false xs n h = h

pub unmarked_in : (marks : List Bool) (n : ℕ) (stops : List Stop) → LeadsIn n stops → (a b : ℕ) → Contains (unmarked marks stops a) b → b < n
unmarked_in marks n stops h a b c =
    All-contains (λ q. q < n) (unmarked marks stops a) b
    (left_below (slice_index_or marks a false) (stops_along (ZeroTime false) stops a) n (all_below (stops_along (ZeroTime false) stops a) n (along_in (ZeroTime false) n stops h a))) c
