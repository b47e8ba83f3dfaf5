-- What is kept of the run slots of processes.
use Rattle.std.specs.Prelude.{ℕ, ◌≡◌, ◌<◌, ◌⊎◌, ◌↔◌, Option, Some, None, List, length, get_or, slice_get}
use Rattle.std.specs.List.{Contains}
use Rattle.vs_design.specs.vs_logic4.specs.declared.digit.Digit.{Digit}
use Rattle.vs_design.specs.vs_logic4.specs.declared.edge.Edge.{Edge}
use Rattle.vs_design.specs.vs_logic4.specs.declared.edge.Edge.TheVariants.{Any, Posedge, Negedge}
use Rattle.vs_design.specs.declared.statement.EventTerm.{EventTerm}
use Rattle.vs_design.specs.Parts.{Parts}
use Rattle.vs_process.specs.Ways.{Pause}
use Rattle.vs_maps.specs.vs_rules.specs.Claims.{Claims, IsDelay, IsRoot, IsRootOf, IsWriter, is_wide}
use Rattle.vs_maps.specs.vs_rules.specs.Constants.{IsClock}
use Rattle.vs_maps.specs.vs_rules.specs.Slots.{HasWriteSlot}
use Rattle.vs_slots_constants.specs.declared.clocks.Clock.{Clock}
use Rattle.vs_slots_constants.specs.Inverted.{AreInverted}
use Rattle.vs_claims.specs.vs_maps.specs.Ranges.{HasSignal, now_at}
use Rattle.vs_claims.specs.vs_maps.specs.declared.along.Along.TheVariants.{Plain}
use Rattle.vs_claims.specs.vs_maps.specs.Reaches.{Chart, IsPlace, places}
use Rattle.vs_maps.specs.Sites.{IsWrite}
use Rattle.vs_maps.specs.declared.sites.Site.{Site}
use Rattle.vs_maps.specs.declared.sites.Use.TheVariants.{Now}
use Rattle.vs_claims.specs.Facts.{Case, AreCharts}
use Rattle.vs_slots.specs.declared.roots.Firing.{Firing}
use Rattle.vs_slots.specs.declared.runs.Runs.{Runs}
use Rattle.vs_slots.specs.Firing.{CountsAt, InPhaseOf, RootFires, WritesAt}
use Rattle.vs_graph.specs.Rows.{row}
use Rattle.vs_slots.specs.Lists.{IsOneOf}
use Rattle.vs_slots.specs.Runs.{AreRuns, DelayPauseEnds, EdgePauseEnds}
use Rattle.vs_slots.specs.Seen.{seen_by}

-- a place of a process has a run slot, as runs are kept
abbrev pub IsRunIn : List Runs → ℕ → ℕ → ℕ → Type 0
IsRunIn runs i p r = (x : Runs) × (slice_get runs i ≡ Some x) × IsOneOf x.ends (row x.before p) r

-- these are the runs of a process, by its number, behind controls that can end so
abbrev pub RunsWhere : (Parts → Claims → ℕ → Pause → ℕ → Type 0) → Case → ℕ → Runs → Type 0
RunsWhere can_end f i x = (t : Chart) → slice_get f.charts i ≡ Some t →
    AreRuns (Plain (is_wide f.claims)) (can_end f.design f.claims i) t x.before x.ends

-- these are those of all processes, in their order
pub record AreAllRuns (can_end : Parts → Claims → ℕ → Pause → ℕ → Type 0) (f : Case) (runs : List Runs) : Type 0 where
  pub long : length runs ≡ length f.design.processes
  pub each : (i : ℕ) (x : Runs) → slice_get runs i ≡ Some x → RunsWhere can_end f i x

-- this is what a signal is as a clock
abbrev pub IsClockOf : Case → ℕ → Option Clock → Type 0
IsClockOf f v o = (digit : Digit) (offset half : ℕ) →
    (IsClock f.design f.claims v digit offset half ↔ o ≡ Some (record { digit = digit; offset = offset; half = half }))

-- this is what each signal is as a clock
abbrev pub AreClocks : Case → List (Option Clock) → Type 0
AreClocks f clocks = (length clocks ≡ length f.design.signals) × ((v : ℕ) → v < length clocks → IsClockOf f v (get_or clocks v None))

-- a clock is turned after some ticks
abbrev pub IsTurned : Option Clock → Type 0
IsTurned o = (x : Clock) → o ≡ Some x → 0 < x.half

-- at a place of a process an edge of a root can fire, as runs are kept
abbrev pub IsPlaceFiring : Chart → List Runs → Option Clock → ℕ → ℕ → Edge → ℕ → ℕ → ℕ → Type 0
IsPlaceFiring t runs clock modulus root edge writer p r = (p < places t) × IsPlace t p × WritesAt t p root × CountsAt t p root edge
    × IsRunIn runs writer p r × InPhaseOf clock edge modulus r

-- at a site of its writer an edge of a root can fire, as runs are kept
abbrev pub IsSiteFiring : Chart → List Runs → Option Clock → ℕ → ℕ → Edge → ℕ → Site → ℕ → Type 0
IsSiteFiring t runs clock modulus root edge writer s r = (s.process ≡ writer) × IsWrite s.usage × CountsAt t s.place root edge
    × IsRunIn runs writer s.place r × InPhaseOf clock edge modulus r

-- at one of the places of a process of kind delay it can
abbrev pub IsFiringBy : Case → List Runs → Option Clock → ℕ → Edge → ℕ → ℕ → Type 0
IsFiringBy f runs clock root edge writer r = IsDelay f.design f.claims writer × ((t : Chart) × (slice_get f.charts writer ≡ Some t)
    × ((p : ℕ) × (p < places t) × IsPlaceFiring t runs clock f.claims.modulus root edge writer p r))

-- by its writer an edge of a signal can fire
abbrev pub IsFiringOf : Case → List Runs → Option Clock → ℕ → Edge → ℕ → Type 0
IsFiringOf f runs clock root edge r = (writer : ℕ) × IsWriter f.design f.claims root writer × IsFiringBy f runs clock root edge writer r

-- for each root, the residues at which an edge of it can fire
abbrev pub IsFiring : Case → Edge → List (List ℕ) → Type 0
IsFiring f edge table = (root r : ℕ) → root < length f.design.signals →
    (Contains (row table root) r ↔ (IsRoot f.design f.claims root × RootFires f.design f.claims root edge r))

abbrev pub table_by : Firing → Edge → List (List ℕ)
table_by x Any = x.any
table_by x Posedge = x.posedge
table_by x Negedge = x.negedge

-- the tables of all edges, and which signals show a variable inverted
pub record AreFirings (f : Case) (x : Firing) : Type 0 where
  pub tables_are : (edge : Edge) → IsFiring f edge (table_by x edge)
  pub inverted_are : AreInverted f.design (is_wide f.claims) x.inverted.now

-- a term can fire at a residue, by the tables of roots
abbrev pub IsTermIn : Case → Firing → EventTerm → ℕ → Type 0
IsTermIn f x t r = (root : ℕ) × IsRootOf f.design f.claims root t.range.signal × Contains (row (table_by x (seen_by x.inverted.now t)) root) r

-- one of some terms can
abbrev pub AreTermsIn : Case → Firing → List EventTerm → ℕ → Type 0
AreTermsIn f x terms r = (t : EventTerm) × Contains terms t × IsTermIn f x t r

-- the runs behind delay controls, and behind event controls
pub record AreBothRuns (f : Case) (waiting fired : List Runs) : Type 0 where
  pub waiting_are : AreAllRuns DelayPauseEnds f waiting
  pub fired_are : AreAllRuns EdgePauseEnds f fired

-- a place of a process has a run slot, as both are kept
abbrev pub IsKeptRun : List Runs → List Runs → ℕ → ℕ → ℕ → Type 0
IsKeptRun waiting fired i p r = IsRunIn waiting i p r ⊎ IsRunIn fired i p r

-- at a place of a process a variable is written at a residue
abbrev pub IsPlaceWrite : List Runs → List Runs → Chart → ℕ → ℕ → ℕ → ℕ → Type 0
IsPlaceWrite waiting fired t u i p r = (p < places t) × IsPlace t p × HasSignal (now_at t p) u × IsKeptRun waiting fired i p r

-- at a site of its writer a variable is written by `=` at a residue
abbrev pub IsSiteWrite : List Runs → List Runs → ℕ → Site → ℕ → Type 0
IsSiteWrite waiting fired writer s r = (s.process ≡ writer) × (s.usage ≡ Now) × IsKeptRun waiting fired writer s.place r

-- at one of the places of a process it is
abbrev pub IsWriteBy : Case → List Runs → List Runs → ℕ → ℕ → ℕ → Type 0
IsWriteBy f waiting fired u i r = (t : Chart) × (slice_get f.charts i ≡ Some t) × ((p : ℕ) × (p < places t) × IsPlaceWrite waiting fired t u i p r)

-- by its writer it is
abbrev pub IsWriteIn : Case → List Runs → List Runs → ℕ → ℕ → Type 0
IsWriteIn f waiting fired u r = (i : ℕ) × IsWriter f.design f.claims u i × IsWriteBy f waiting fired u i r

-- the write slots of each variable
abbrev pub AreWriteSlots : Case → List (List ℕ) → Type 0
AreWriteSlots f table = (length table ≡ length f.design.signals) × ((u r : ℕ) → u < length f.design.signals →
    (Contains (row table u) r ↔ HasWriteSlot f.design f.claims u r))

-- the slots of a design and a certificate, as they are kept
pub record AreSlots (f : Case) (firing : Firing) (waiting fired : List Runs) (writes : List (List ℕ)) : Type 0 where
  pub maps_are : AreCharts f.design f.charts
  pub firing_are : AreFirings f firing
  pub runs_are : AreBothRuns f waiting fired
  pub writes_are : AreWriteSlots f writes
