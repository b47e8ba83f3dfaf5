-- The rule on what processes read, of the places of a map.
use Rattle.std.specs.Prelude.{ℕ, ◌≡◌, ◌⊎◌, ◌↔◌, true, false, Some, List, slice_get}
use Rattle.std.specs.List.{Contains}
use Rattle.vs_design.specs.declared.design.Process.{Process}
use Rattle.vs_design.specs.declared.range.BitRange.{BitRange}
use Rattle.vs_design.specs.declared.statement.EventTerm.{EventTerm}
use Rattle.vs_design.specs.Parts.{Parts}
use Rattle.vs_process.specs.Stops.{Stop, IsText}
use Rattle.vs_claims.specs.vs_process.specs.Executions.{is_level}
use Rattle.vs_rules.specs.Claims.{Claims, IsMixed, IsSequential, IsRootOf, IsWriter, is_wide}
use Rattle.vs_rules.specs.Drivers.{IsBlocking, InCone}
use Rattle.vs_rules.specs.Rules.{K9}
use Rattle.vs_rules.specs.Slots.{Fires, HasWriteSlot}
use Rattle.vs_claims.specs.vs_maps.specs.Reaches.{Chart, IsPlace}
use Rattle.vs_claims.specs.vs_maps.specs.Ranges.{HasTermAt, reads_at, shows_at}
use Rattle.vs_claims.specs.vs_maps.specs.Walks.{InHot}
use Rattle.vs_rules_of_processes.specs.vs_slots.specs.Runs.{HasDelayRun, HasRun}
use Rattle.vs_rules_of_processes.specs.EdgePlaces.{FiresIn}

-- what counts as a read of the statement at a place
abbrev pub ReadsAt : Claims → Chart → ℕ → BitRange → Type 0
ReadsAt c t p r = Contains (reads_at t p) r ⊎ ((c.displays ≡ true) × Contains (shows_at t p) r)

-- the process is the writer, and either reads that very signal, or the signal isn't hot at the place
abbrev pub OwnReadAt : Parts → Claims → ℕ → Chart → ℕ → ℕ → ℕ → Type 0
OwnReadAt d c i t p u v = IsWriter d c u i × ((u ≡ v) ⊎ (InHot (is_wide c) t u p → ⊥))

-- write slots of a signal's roots are no firing slots of other roots of a process
abbrev pub RootsApart : Parts → Claims → Chart → ℕ → Type 0
RootsApart d c t v = (root other r : ℕ) → IsRootOf d c root v → HasWriteSlot d c root r → FiresIn d c t other r → other ≡ root

-- a root isn't written at a residue at which a term of another root can fire
abbrev pub IsTermApart : Parts → Claims → ℕ → EventTerm → Type 0
IsTermApart d c root x = (other r : ℕ) → IsRootOf d c other x.range.signal → HasWriteSlot d c root r → Fires d c x r → other ≡ root

-- a term is an edge of a signal
abbrev pub IsEdgeOf : EventTerm → ℕ → Type 0
IsEdgeOf x v = (is_level x ≡ false) × (x.range.signal ≡ v)

-- a process has an edge term of the signal
abbrev pub HasEdgeAt : Chart → ℕ → Type 0
HasEdgeAt t v = (x : EventTerm) × HasTermAt t x × (is_level x ≡ false) × (x.range.signal ≡ v)

-- in a mixed process write slots of a signal's roots are no run slots of a place by delay controls
abbrev pub IsUndelayed : Parts → Claims → ℕ → Chart → ℕ → ℕ → Type 0
IsUndelayed d c i t p v = IsMixed d c i → (root r : ℕ) → IsRootOf d c root v → HasWriteSlot d c root r → HasDelayRun d c i t p r → ⊥

abbrev pub OwnEdgeAt : Parts → Claims → ℕ → Chart → ℕ → ℕ → Type 0
OwnEdgeAt d c i t p v = HasEdgeAt t v × RootsApart d c t v × IsUndelayed d c i t p v

-- write slots of a variable are no run slots of a place
abbrev pub ApartAt : Parts → Claims → ℕ → Chart → ℕ → ℕ → Type 0
ApartAt d c i t p u = (r : ℕ) → HasWriteSlot d c u r → HasRun d c i t p r → ⊥

-- at a place, what is read of a blocking source is the process's own, its edge signal, or written at other residues
abbrev pub MayReadOf : Parts → Claims → ℕ → Chart → ℕ → ℕ → ℕ → Type 0
MayReadOf d c i t p v u = OwnReadAt d c i t p u v ⊎ (OwnEdgeAt d c i t p v ⊎ ApartAt d c i t p u)

-- of all blocking sources of a range's cone
abbrev pub MayReadRange : Parts → Claims → ℕ → Chart → ℕ → BitRange → Type 0
MayReadRange d c i t p r = (u : ℕ) → IsBlocking d c u → InCone d c u r → MayReadOf d c i t p r.signal u

abbrev pub MayReadAt : Parts → Claims → ℕ → Chart → ℕ → Type 0
MayReadAt d c i t p = (r : BitRange) (u : ℕ) → ReadsAt c t p r → IsBlocking d c u → InCone d c u r → MayReadOf d c i t p r.signal u

-- a process that waits for edges or for times keeps the rule K9 exactly where the places of its map do; another one keeps it
pub record ReadingsByPlaces (d : Parts) (c : Claims) (i : ℕ) (t : Chart) : Type 0 where
  pub readings : IsSequential d c i → (((p : ℕ) → IsPlace t p → MayReadAt d c i t p) ↔ K9 d c i)
  pub others : (IsSequential d c i → ⊥) → K9 d c i

abbrev pub ReadingsAreByPlaces : Type 0
ReadingsAreByPlaces = (d : Parts) (c : Claims) (i : ℕ) (q : Process) (stops : List Stop) (start : ℕ) → slice_get d.processes i ≡ Some q →
    IsText q.body stops start → ReadingsByPlaces d c i (record { stops = stops; start = start })
