-- Run slots of places, as they are told.
use Rattle.std.specs.Prelude.{ℕ, ◌≡◌, ◌<◌, ◌↔◌, Some, List, slice_get}
use Rattle.std.specs.List.{Contains}
use Rattle.vs_claims.specs.vs_maps.specs.Reaches.{Chart, places}
use Rattle.vs_claims.specs.Facts.{Case}
use Rattle.vs_slots.specs.Runs.{HasDelayRun, HasRun}

-- these are the run slots of a place of a process, by its number
abbrev pub RunsOf : Case → ℕ → ℕ → List ℕ → Type 0
RunsOf f i p all = (t : Chart) (r : ℕ) → slice_get f.charts i ≡ Some t → p < places t → (Contains all r ↔ HasRun f.design f.claims i t p r)

-- these are those of them that it has by delay controls
abbrev pub DelayRunsOf : Case → ℕ → ℕ → List ℕ → Type 0
DelayRunsOf f i p all = (t : Chart) (r : ℕ) → slice_get f.charts i ≡ Some t → p < places t → (Contains all r ↔ HasDelayRun f.design f.claims i t p r)
