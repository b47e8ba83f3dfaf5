-- The maps of the texts of a design, and rules of the points that write or read a signal.
use Rattle.std.specs.Prelude.{ℕ, ◌≡◌, ◌<◌, Bool, Some, List, [], get_or, length, slice_get}
use Rattle.std.specs.declared.vec.Vec.{Vec}
use Rattle.std.specs.declared.alloc.Global.{Global}
use Rattle.vs_design.specs.declared.design.Process.{Process}
use Rattle.vs_design.specs.Parts.{Parts}
use Rattle.vs_design.specs.Tables.{rows}
use Rattle.vs_process.specs.Stops.{IsText}
use Rattle.vs_maps.specs.Ranges.{HasSignal, now_at, later_at, reads_at}
use Rattle.vs_maps.specs.Reaches.{Chart, IsPlace, places}
use Rattle.vs_maps.specs.Walks.{AreMarked, InLate}

-- a design, and the maps of the texts of its processes
pub record Texts : Type 0 where
  pub design : Parts
  pub charts : List Chart

abbrev pub texts_of : Parts → List Chart → Texts
texts_of d charts = record { design = d; charts = charts }

-- there is a chart for each process, and each is a map of its process's text
pub record AreCharts (d : Parts) (charts : List Chart) : Type 0 where
  pub as_many : length charts ≡ length d.processes
  pub each : (i : ℕ) (q : Process) (t : Chart) → slice_get d.processes i ≡ Some q → slice_get charts i ≡ Some t → IsText q.body t.stops t.start

-- the marks of a process
abbrev pub marks_of : List (Vec Bool Global) → ℕ → List Bool
marks_of table i = get_or (rows table) i []

-- marks say of the first processes to which places of their maps a path leads once a control has been passed
abbrev pub AreLate : List Chart → List (Vec Bool Global) → ℕ → Type 0
AreLate charts table n =
    (i : ℕ) (t : Chart) → i < n → slice_get charts i ≡ Some t → AreMarked (InLate t) (places t) (marks_of table i)

-- all points with a write of the signal, of the one sort, keep a rule
abbrev pub AllNow : Texts → ℕ → (ℕ → ℕ → Type 0) → Type 0
AllNow x v keeps = (i p : ℕ) (t : Chart) → slice_get x.charts i ≡ Some t → IsPlace t p → HasSignal (now_at t p) v → keeps i p

abbrev pub AllLater : Texts → ℕ → (ℕ → ℕ → Type 0) → Type 0
AllLater x v keeps = (i p : ℕ) (t : Chart) → slice_get x.charts i ≡ Some t → IsPlace t p → HasSignal (later_at t p) v → keeps i p

-- all that read it do
abbrev pub AllReads : Texts → ℕ → (ℕ → ℕ → Type 0) → Type 0
AllReads x v keeps = (i p : ℕ) (t : Chart) → slice_get x.charts i ≡ Some t → IsPlace t p → HasSignal (reads_at t p) v → keeps i p
