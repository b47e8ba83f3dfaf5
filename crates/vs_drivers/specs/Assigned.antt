-- Signals that processes write by `=`, by the sites of their maps.
use Rattle.std.specs.Prelude.{ℕ, ◌≡◌, ◌↔◌, Bool, false, List, slice_index_or, IsTrue}
use Rattle.std.specs.List.{Contains}
use Rattle.vs_design.specs.Parts.{Parts}
use Rattle.vs_process.specs.Places.{Todo}
use Rattle.vs_rules.specs.Paths.{IsPoint, WritesNow}
use Rattle.vs_maps.specs.Reaches.{Chart}
use Rattle.vs_maps.specs.Sites.{IsSite}
use Rattle.vs_maps.specs.declared.sites.Site.{Site}
use Rattle.vs_maps.specs.declared.sites.Use.TheVariants.{Now}
use Rattle.vs_drivers.specs.Wires.{Wiring, IsFree}

-- a site of some maps is a write of the signal by `=`
abbrev pub AssignsIn : List Chart → ℕ → Type 0
AssignsIn charts u = (s : Site) × IsSite charts s × (s.range.signal ≡ u) × (s.usage ≡ Now)

-- the text of some process writes the signal by `=`
pub record IsAssigned (d : Parts) (u : ℕ) : Type 0 where
  pub process : ℕ
  pub point : Todo
  pub is : IsPoint d process point
  pub writes : WritesNow d point u

-- marks and a list of the variables that a process writes by `=`, and none of kind comb writes
pub record AreBlocking (x : Wiring) (marks : List Bool) (listed : List ℕ) : Type 0 where
  pub marks_are : (u : ℕ) → (IsTrue (slice_index_or marks u false) ↔ (IsFree x u × IsAssigned x.design u))
  pub listed_are : (u : ℕ) → (Contains listed u ↔ (IsFree x u × IsAssigned x.design u))
