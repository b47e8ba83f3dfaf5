-- Run slots of the places of a map.
use Rattle.std.specs.Prelude.{ℕ, ◌≡◌, ◌<◌, ◌↔◌, Some, List, [], slice_get}
use Rattle.std.specs.List.{Contains}
use Rattle.vs_design.specs.declared.design.Process.{Process}
use Rattle.vs_design.specs.Parts.{Parts}
use Rattle.vs_process.specs.Numbers.{number_next}
use Rattle.vs_process.specs.Stops.{Stop, IsText}
use Rattle.vs_process.specs.Ways.{Pause, none, delay, event, next_by}
use Rattle.vs_maps.specs.vs_rules.specs.Claims.{Claims, is_wide, kind_of, WaitsForEdges, WaitsForTimes}
use Rattle.vs_maps.specs.vs_rules.specs.Slots.{DelayEnds, EdgeEnds, Ends, HasSlot, RunsByDelays}
use Rattle.vs_claims.specs.vs_maps.specs.declared.along.Along.{Along}
use Rattle.vs_claims.specs.vs_maps.specs.declared.along.Along.TheVariants.{Plain}
use Rattle.vs_claims.specs.vs_maps.specs.Reaches.{Chart, IsPlace, pause_at, places}
use Rattle.vs_claims.specs.vs_maps.specs.Ranges.{pause_terms}
use Rattle.vs_claims.specs.vs_maps.specs.Walks.{WalkFrom, IsControlBefore}
use Rattle.vs_slots.specs.Terms.{TermsFire}
use Rattle.vs_graph.specs.Rows.{row}
use Rattle.vs_slots.specs.Lists.{IsOneOf}

-- a control of a process, which goes on so, can end at a residue
abbrev pub PauseEnds : Parts → Claims → ℕ → Pause → ℕ → Type 0
PauseEnds d c i pause r = Ends d c i (kind_of d c i) (next_by pause []) r

-- a delay control of one that waits for times can, by its lists
abbrev pub DelayPauseEnds : Parts → Claims → ℕ → Pause → ℕ → Type 0
DelayPauseEnds d c i pause r = (lists : List (List ℕ)) × WaitsForTimes d c i lists × DelayEnds d i lists (next_by pause []) r

-- an event control of one that waits for edges can, by its terms
abbrev pub EdgePauseEnds : Parts → Claims → ℕ → Pause → ℕ → Type 0
EdgePauseEnds d c i pause r = WaitsForEdges d c i × EdgeEnds d c (next_by pause []) r

-- a walk along ways that count leads to a place from a control that can end so
abbrev pub HasRunBy : Along → (Pause → ℕ → Type 0) → Chart → ℕ → ℕ → Type 0
HasRunBy along ends t p r = WalkFrom t along (λ q. ends (pause_at t q) r) p

-- a place of a process has a run slot
abbrev pub HasRun : Parts → Claims → ℕ → Chart → ℕ → ℕ → Type 0
HasRun d c i t p r = HasRunBy (Plain (is_wide c)) (PauseEnds d c i) t p r

-- it has one by a delay control
abbrev pub HasDelayRun : Parts → Claims → ℕ → Chart → ℕ → ℕ → Type 0
HasDelayRun d c i t p r = HasRunBy (Plain (is_wide c)) (DelayPauseEnds d c i) t p r

-- a place where something is done has the run slots of its point
abbrev pub RunsAreExact : Type 0
RunsAreExact = (d : Parts) (c : Claims) (i : ℕ) (q : Process) (stops : List Stop) (start : ℕ) → slice_get d.processes i ≡ Some q →
    (x : IsText q.body stops start) → (p n r : ℕ) → number_next (x.at p) ≡ Some n →
    (HasRun d c i (record { stops = stops; start = start }) p r ↔ HasSlot d c i (x.at p) r)

-- so it has those by delay controls
abbrev pub DelayRunsAreExact : Type 0
DelayRunsAreExact = (d : Parts) (c : Claims) (i : ℕ) (q : Process) (stops : List Stop) (start : ℕ) → slice_get d.processes i ≡ Some q →
    (x : IsText q.body stops start) → (p n r : ℕ) (lists : List (List ℕ)) → number_next (x.at p) ≡ Some n → WaitsForTimes d c i lists →
    (HasDelayRun d c i (record { stops = stops; start = start }) p r ↔ RunsByDelays d (is_wide c) i lists (x.at p) r)

-- for each place of a process, the controls before it, and the residues at which its own control can end: by these it has its run slots
abbrev pub AreRuns : Along → (Pause → ℕ → Type 0) → Chart → List (List ℕ) → List (List ℕ) → Type 0
AreRuns along can_end t before ends = (p r : ℕ) → p < places t → (IsOneOf ends (row before p) r ↔ HasRunBy along can_end t p r)

-- for each place, these are the controls before it, along ways that count
abbrev pub AreBefore : Along → Chart → List (List ℕ) → Type 0
AreBefore along t before = (p q : ℕ) → p < places t → (Contains (row before p) q ↔ ((q < places t) × IsControlBefore t along q p))

-- for private clauses: what both lists are
pub record AreRunsBy (along : Along) (can_end : Pause → ℕ → Type 0) (t : Chart) (before ends : List (List ℕ)) : Type 0 where
  pub before_are : AreBefore along t before
  pub ends_are : (q r : ℕ) → q < places t → (Contains (row ends q) r ↔ (IsPlace t q × can_end (pause_at t q) r))

-- a delay control can end at a residue, by the lists of the controls
abbrev pub DelayEndsBy : (ℕ → List ℕ) → Pause → ℕ → Type 0
DelayEndsBy list none r = ⊥
DelayEndsBy list (delay number ticks) r = Contains (list number) r
DelayEndsBy list (event number terms) r = ⊥

-- one of the terms of an event control can fire at it
abbrev pub TermsEnd : Parts → Claims → Pause → ℕ → Type 0
TermsEnd d c pause r = TermsFire d c (pause_terms pause) r
