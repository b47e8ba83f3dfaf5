-- The ways of a map lead to places of it.
use Rattle.std.specs.Prelude.{ℕ, ◌<◌, ◌&&◌, Bool, true, false, List, [], ◌∷◌, get_or, if◌then◌else◌}
use Rattle.std.specs.List.{Contains, All}
use Rattle.std.proofs.lemmas.List.Elements.{All-nil, All-cons, All-head, All-contains, Contains-get_or}
use Rattle.vs_process.specs.Stops.{LeadsIn, Stop, stop_at, stop_statement, stops_tos, stops_next}
use Rattle.vs_maps.specs.declared.along.Along.{Along}
use Rattle.vs_maps.specs.Reaches.{is_turned, statement_passes, statement_turns, stops_along, stops_steps, tos_by_turn}

all_below : (xs : List ℕ) (n : ℕ) → ((q : ℕ) → Contains xs q → q < n) → All (λ q. q < n) xs
all_below xs n h k d within = h (get_or xs k d) (Contains-get_or xs k d within)

chosen_below : (chosen : Bool) (xs : List ℕ) (n : ℕ) → All (λ q. q < n) xs → All (λ q. q < n) (if chosen then xs else [])
chosen_below true xs n h = h
chosen_below false xs n h = All-nil (λ q. q < n)

turned_below : (first : Bool) (xs : List ℕ) (n : ℕ) → All (λ q. q < n) xs → All (λ q. q < n) (tos_by_turn first xs)
turned_below false xs n h = h
turned_below true [] n h = h
turned_below true (x ∷ xs) n h = All-cons (λ q. q < n) x [] (All-head (λ q. q < n) x xs h) (All-nil (λ q. q < n))

pub along_in : (along : Along) (n : ℕ) (stops : List Stop) → LeadsIn n stops →
    (a b : ℕ) → Contains (stops_along along stops a) b → b < n
along_in along n stops h a b c =
    All-contains (λ q. q < n) (stops_along along stops a) b
    (chosen_below (statement_passes along (stop_statement (stop_at stops a)))
    (tos_by_turn (is_turned along && statement_turns (stop_statement (stop_at stops a))) (stops_tos stops a)) n
    (turned_below (is_turned along && statement_turns (stop_statement (stop_at stops a))) (stops_tos stops a) n
    (all_below (stops_tos stops a) n (h.ways a)))) c

pub steps_in : (n : ℕ) (stops : List Stop) → LeadsIn n stops → (a b : ℕ) → Contains (stops_steps stops a) b → b < n
steps_in n stops h a b c =
    All-contains (λ q. q < n) (stops_steps stops a) b
    (All-cons (λ q. q < n) (stops_next stops a) (stops_tos stops a) (h.behind a) (all_below (stops_tos stops a) n (h.ways a))) c
