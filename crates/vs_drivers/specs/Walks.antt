-- Walks from ranges backward through drivers.
use Rattle.std.specs.Prelude.{ℕ, ◌≡◌, ◌<◌, ◌↔◌, ◌⊎◌, Bool, false, List, [], ◌∷◌, length, map, get_or, slice_index_or, if◌then◌else◌, IsTrue}
use Rattle.std.specs.List.{Contains}
use Rattle.std.specs.declared.vec.Vec.{Vec}
use Rattle.std.specs.declared.alloc.Global.{Global}
use Rattle.vs_design.specs.declared.range.BitRange.{BitRange}
use Rattle.vs_design.specs.declared.signal.Signal.{Signal}
use Rattle.vs_design.specs.Tables.{rows}
use Rattle.vs_maps.specs.vs_graph.specs.Rows.{row, with_one}
use Rattle.vs_design.specs.Uses.{joined}
use Rattle.vs_rules.specs.Paths.{Meet}
use Rattle.vs_drivers.specs.declared.writers.Written.{Written}
use Rattle.vs_drivers.specs.Meets.{meet_among}
use Rattle.vs_drivers.specs.Wires.{Wiring, WritesAt, NeedsAt, IsFree, drivers}

-- the driver of a number writes what meets the range
pub record MeetsAt (x : Wiring) (r : BitRange) (n : ℕ) : Type 0 where
  pub range : BitRange
  pub writes : WritesAt x n range
  pub meets : Meet x.design range r

-- a walk leads backward from one of the ranges to a driver: it writes what meets the range, or what meets the need of a driver before
pub data Passed (x : Wiring) (rs : List BitRange) : ℕ → Type 0 where
  begins : (r : BitRange) (n : ℕ) → Contains rs r → MeetsAt x r n → Passed x rs n
  goes_on : (m n : ℕ) (q : BitRange) → Passed x rs m → NeedsAt x m q → MeetsAt x q n → Passed x rs n

-- one of the ranges names the signal, or a need of a driver to which a walk leads from them
pub data Named (x : Wiring) (rs : List BitRange) (u : ℕ) : Type 0 where
  here : (r : BitRange) → Contains rs r → r.signal ≡ u → Named x rs u
  there : (n : ℕ) (q : BitRange) → Passed x rs n → NeedsAt x n q → q.signal ≡ u → Named x rs u

-- ---- tables

-- a table with a range that is written, in the row of its signal
abbrev pub noted : Written → List (List Written) → List (List Written)
noted w table = with_one w.range.signal w table

-- a table with all ranges that a driver writes
abbrev pub all_noted : ℕ → List BitRange → List (List Written) → List (List Written)
all_noted driver [] table = table
all_noted driver (r ∷ rs) table = all_noted driver rs (noted (record { driver = driver; range = r }) table)

-- a table has for each signal of the design the ranges of it that drivers write
pub record AreWriters (x : Wiring) (table : List (List Written)) : Type 0 where
  pub long : length table ≡ length x.design.signals
  pub exact : (v : ℕ) (w : Written) → (Contains (row table v) w ↔
      ((v < length x.design.signals) × (w.range.signal ≡ v) × WritesAt x w.driver w.range))

-- a table has for each driver the ranges that it needs
pub record AreNeeds (x : Wiring) (table : List (Vec BitRange Global)) : Type 0 where
  pub long : length table ≡ drivers x.design
  pub exact : (n : ℕ) (r : BitRange) → n < drivers x.design → (Contains (get_or (rows table) n []) r ↔ NeedsAt x n r)

-- the two tables of a wiring
pub record AreDrivers (x : Wiring) (needs : List (Vec BitRange Global)) (writers : List (List Written)) : Type 0 where
  pub needs_are : AreNeeds x needs
  pub writers_are : AreWriters x writers

-- the drivers of a row whose ranges meet the range
abbrev pub met_in : List Signal → List Written → BitRange → List ℕ
met_in signals written r = joined (map (λ (w : Written). if meet_among signals w.range r then w.driver ∷ [] else []) written)

-- those of a table
abbrev pub met : List Signal → List (List Written) → BitRange → List ℕ
met signals table r = met_in signals (row table r.signal) r

abbrev pub all_met : List Signal → List (List Written) → List BitRange → List ℕ
all_met signals table rs = joined (map (met signals table) rs)

-- where a step backward leads from a driver
abbrev pub linked : List Signal → List (Vec BitRange Global) → List (List Written) → ℕ → List ℕ
linked signals needs table n = all_met signals table (get_or (rows needs) n [])

-- tables lead to drivers below a number alone
abbrev pub LeadBelow : ℕ → List Signal → List (List Written) → Type 0
LeadBelow count signals table = (rs : List BitRange) (n : ℕ) → Contains (all_met signals table rs) n → n < count

-- ---- marks of signals

-- marks that have been set where a signal is named by one of the ranges, and is a variable that no process of kind comb writes
pub record AreFreed (x : Wiring) (old : List Bool) (rs : List BitRange) (new : List Bool) : Type 0 where
  pub long : length new ≡ length old
  pub exact : (u : ℕ) → (IsTrue (slice_index_or new u false) ↔
      (IsTrue (slice_index_or old u false) ⊎ (IsFree x u × (r : BitRange) × Contains rs r × (r.signal ≡ u))))
