-- Sites: what the points of the texts of a design do with which ranges.
use Rattle.std.specs.Prelude.{ℕ, ◌≡◌, ◌<◌, ◌↔◌, Bool, false, Some, List, [], ◌∷◌, length, slice_get}
use Rattle.std.specs.List.{Contains}
use Rattle.vs_design.specs.vs_logic4.specs.declared.edge.Edge.{Edge}
use Rattle.vs_design.specs.declared.range.BitRange.{BitRange}
use Rattle.vs_design.specs.declared.statement.EventTerm.{EventTerm}
use Rattle.vs_graph.specs.Rows.{row, with_one}
use Rattle.vs_maps.specs.Ranges.{now_at, later_at, reads_at, shows_at, pause_terms}
use Rattle.vs_maps.specs.Reaches.{Chart, IsPlace, pause_at}
use Rattle.vs_maps.specs.Texts.{Texts}
use Rattle.vs_maps.specs.declared.sites.Site.{Site}
use Rattle.vs_maps.specs.declared.sites.Use.{Use}
use Rattle.vs_maps.specs.declared.sites.Use.TheVariants.{Now, Later, Reads, Shows, Waits}

-- a place of a map uses the range so
abbrev pub UsesAt : Chart → ℕ → Use → BitRange → Type 0
UsesAt t p Now r = Contains (now_at t p) r
UsesAt t p Later r = Contains (later_at t p) r
UsesAt t p Reads r = Contains (reads_at t p) r
UsesAt t p Shows r = Contains (shows_at t p) r
UsesAt t p (Waits edge) r = Contains (pause_terms (pause_at t p)) (record { range = r; edge = edge })

-- a site of the maps of processes: a place that is a point, and a range that it uses
pub record IsSite (charts : List Chart) (s : Site) : Type 0 where
  pub chart : Chart
  pub is : slice_get charts s.process ≡ Some chart
  pub point : IsPlace chart s.place
  pub uses : UsesAt chart s.place s.usage s.range

-- a use is a write, by `=` or by `<=`
abbrev pub IsWrite : Use → Type 0
IsWrite Now = Unit {0}
IsWrite Later = Unit {0}
IsWrite _ = ⊥

-- a use waits for a change that passes a test
abbrev pub waits_by : (Edge → Bool) → Use → Bool
waits_by test (Waits edge) = test edge
waits_by test _ = false

-- rows of the sites of each signal
pub record AreSites (x : Texts) (signals : List (List Site)) : Type 0 where
  pub long : length signals ≡ length x.design.signals
  pub of_signals : (v : ℕ) (s : Site) → v < length x.design.signals → (Contains (row signals v) s ↔ (IsSite x.charts s × (s.range.signal ≡ v)))

-- a site of a place that uses a range so
abbrev pub site_of : ℕ → ℕ → Use → BitRange → Site
site_of process place usage range = record { process = process; place = place; usage = usage; range = range }

-- one of a place that waits for a term
abbrev pub waiting_of : ℕ → ℕ → EventTerm → Site
waiting_of process place term = record { process = process; place = place; usage = Waits term.edge; range = term.range }

-- rows with sites in those of their signals
abbrev pub all_filed : List Site → List (List Site) → List (List Site)
all_filed [] table = table
all_filed (s ∷ sites) table = all_filed sites (with_one s.range.signal s table)
