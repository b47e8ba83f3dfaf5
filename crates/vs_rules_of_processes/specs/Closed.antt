-- Residues at which delays can end, of the places of a map.
use Rattle.std.specs.Prelude.{ℕ, ◌+◌, ◌%◌, ◌<◌, Bool, List, map, ◌≡◌, length}
use Rattle.std.specs.List.{Contains}
use Rattle.std.specs.declared.vec.Vec.{Vec}
use Rattle.std.specs.declared.alloc.Global.{Global}
use Rattle.vs_design.specs.declared.statement.Statement.{Statement}
use Rattle.vs_design.specs.Parts.{Parts}
use Rattle.vs_process.specs.Ways.{Pause, none, delay, event}
use Rattle.vs_rules.specs.Certificates.{residues_from}
use Rattle.vs_rules.specs.Claims.{Claims, IsDelay, is_wide}
use Rattle.vs_rules.specs.Controls.{controls_in, list_of}
use Rattle.vs_maps.specs.Reaches.{Chart, IsPlace, InSlot0, pause_at}
use Rattle.vs_rules_of_processes.specs.vs_slots.specs.Runs.{HasRun}

-- a list has so many ticks, by the modulus, where they are above 0 and ways that take no time, by wide rules past a turn that is sure by it alone,
-- lead to a place from the start
abbrev pub StartsWell : Bool → Chart → ℕ → ℕ → List ℕ → ℕ → Type 0
StartsWell wide t p ticks list m = InSlot0 wide t p → 0 < ticks → Contains list (ticks % m)

-- it has each run slot of a place, after so many ticks
abbrev pub EndsWell : Parts → Claims → ℕ → Chart → ℕ → ℕ → List ℕ → ℕ → Type 0
EndsWell d c i t p ticks list m = (r : ℕ) → HasRun d c i t p r → Contains list ((r + ticks) % m)

-- a place that goes on so keeps the rule K8: where it is a delay control, by its list; it is no event control of a process of kind delay
abbrev pub PauseIsClosed : Parts → Claims → ℕ → Chart → (ℕ → List ℕ) → ℕ → Pause → Type 0
PauseIsClosed d c i t list p none = Unit {0}
PauseIsClosed d c i t list p (delay number ticks) = StartsWell (is_wide c) t p ticks (list number) c.modulus × EndsWell d c i t p ticks (list number) c.modulus
PauseIsClosed d c i t list p (event number terms) = IsDelay d c i → IsPlace t p → ⊥

abbrev pub PlaceIsClosed : Parts → Claims → ℕ → Chart → (ℕ → List ℕ) → ℕ → Type 0
PlaceIsClosed d c i t list p = PauseIsClosed d c i t list p (pause_at t p)

-- the places of the map of a process that waits for times, with a list for each delay control by its number, keep the rule K8
abbrev pub AreClosed : Parts → Claims → ℕ → Chart → (ℕ → List ℕ) → Type 0
AreClosed d c i t list = (p : ℕ) → PlaceIsClosed d c i t list p

-- such a process, by its text and its map, has one list for each delay control of the text, in the order of the text, and they are closed
abbrev pub KeepsResidues : Parts → Claims → ℕ → Chart → Statement → List (Vec ℕ Global) → Type 0
KeepsResidues d c i t body lists =
    (length lists ≡ length (controls_in body)) × AreClosed d c i t (list_of (controls_in body) (map residues_from lists))
