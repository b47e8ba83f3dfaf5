-- Which continuous assignments read what others write, and orders by that. They go by their numbers.
use Rattle.std.specs.Prelude.{ℕ, ◌≡◌, ◌↔◌, ◌⊎◌, List, length}
use Rattle.std.specs.List.{Contains}
use Rattle.std.specs.declared.vec.Vec.{Vec}
use Rattle.std.specs.declared.alloc.Global.{Global}
use Rattle.vs_design.specs.declared.range.BitRange.{BitRange}
use Rattle.vs_design.specs.Parts.{Parts}
use Rattle.vs_graph.specs.Order.{Needs, IsSorted}
use Rattle.vs_drivers.specs.vs_rules.specs.Drivers.{assign, DriverReads, DriverWrites}
use Rattle.vs_drivers.specs.declared.writers.Written.{Written}
use Rattle.vs_drivers.specs.Ranges.{Share}

-- a continuous assignment reads a bit of the design that another one writes
pub record ReadsFrom (d : Parts) (x y : ℕ) : Type 0 where
  pub read : BitRange
  pub reads : DriverReads d (assign x) read
  pub written : BitRange
  pub writes : DriverWrites d (assign y) written
  pub share : Share d read written

-- a table has for each continuous assignment those from which it reads
pub record AreNeeds (d : Parts) (table : List (Vec ℕ Global)) : Type 0 where
  pub long : length table ≡ length d.assigns
  pub exact : (x y : ℕ) → (Needs table x y ↔ ReadsFrom d x y)

-- continuous assignments stand in an order once, each after those from which it reads; those that are left out read from one that is left out
pub record IsOrder (d : Parts) (order : List ℕ) : Type 0 where
  pub table : List (Vec ℕ Global)
  pub needs : AreNeeds d table
  pub sorted : IsSorted table order

-- for a private clause: the drivers of a row whose ranges have a bit of a range have been put behind others
pub record ArePut (d : Parts) (row : List Written) (range : BitRange) (old new : List ℕ) : Type 0 where
  pub sound : (y : ℕ) → Contains new y → Contains old y ⊎ ((w : Written) × Contains row w × Share d range w.range × (w.driver ≡ y))
  pub kept : (y : ℕ) → Contains old y → Contains new y
  pub whole : (w : Written) → Contains row w → Share d range w.range → Contains new w.driver
