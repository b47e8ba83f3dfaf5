-- Walks of a map lead to places of it.
use Rattle.std.specs.Prelude.{ℕ, ◌<◌, Bool, true, false, List, [], get_or, if◌then◌else◌}
use Rattle.std.specs.List.{Contains, All}
use Rattle.std.proofs.lemmas.List.Elements.{All-nil, All-contains, Contains-get_or}
use Rattle.vs_process.specs.Stops.{LeadsIn, Stop, stop_at, stop_statement, stops_tos}
use Rattle.vs_drivers.specs.vs_rules.specs.Paths.{Bit}
use Rattle.vs_cert_blocks.specs.Walks.{is_open, open_tos}

all_below : (xs : List ℕ) (n : ℕ) → ((q : ℕ) → Contains xs q → q < n) → All (λ q. q < n) xs
all_below xs n h k d within = h (get_or xs k d) (Contains-get_or xs k d within)

chosen_below : (chosen : Bool) (xs : List ℕ) (n : ℕ) → All (λ q. q < n) xs → All (λ q. q < n) (if chosen then xs else [])
chosen_below true xs n h = h
chosen_below false xs n h = All-nil (λ q. q < n)

pub open_in : (b : Bit) (n : ℕ) (stops : List Stop) → LeadsIn n stops → (p q : ℕ) → Contains (open_tos b stops p) q → q < n
open_in b n stops h p q c =
    All-contains (λ q. q < n) (open_tos b stops p) q
    (chosen_below (is_open b (stop_statement (stop_at stops p))) (stops_tos stops p) n (all_below (stops_tos stops p) n (h.ways p))) c
