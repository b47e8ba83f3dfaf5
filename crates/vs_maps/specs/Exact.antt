-- The tables of a process are exact.
use Rattle.std.specs.Prelude.{ℕ, ◌≡◌, ◌↔◌, Bool, false, Some, List, slice_get}
use Rattle.std.specs.List.{Contains}
use Rattle.vs_design.specs.declared.design.Process.{Process}
use Rattle.vs_design.specs.Parts.{Parts}
use Rattle.vs_process.specs.Places.{Todo}
use Rattle.vs_process.specs.Steps.{Next}
use Rattle.vs_process.specs.Numbers.{number_next}
use Rattle.vs_process.specs.Ways.{next_by}
use Rattle.vs_process.specs.Stops.{Stop, stop_at, stop_statement, stops_tos, IsText}
use Rattle.vs_graph.specs.Reached.{Reached}
use Rattle.vs_rules.specs.Claims.{Claims, is_wide, kind_of}
use Rattle.vs_rules.specs.Paths.{IsPoint, IsSlot0, IsPrologue, IsLate, IsHot, WritesNow, is_plain}
use Rattle.vs_rules.specs.Slots.{Ends, HasSlot}
use Rattle.vs_maps.specs.declared.along.Along.TheVariants.{Any, Plain, ZeroTime}
use Rattle.vs_maps.specs.Reaches.{Chart, IsPlace, InSlot0, InPrologue, pause_of, stops_along}

-- a way of this sort leads to the place, from a place of a chart that is a point
pub record Begins (t : Chart) (at : ℕ → Todo) (sort : Todo → Next → Type 0) (seed : ℕ) : Type 0 where
  pub point : ℕ
  pub is_place : IsPlace t point
  pub leads : Contains (stops_tos t.stops point) seed
  pub starts : sort (at point) (next_by (pause_of (stop_statement (stop_at t.stops point))) (at seed))

-- these are the places to which the ways of this sort lead
abbrev pub AreBegun : Chart → (ℕ → Todo) → (Todo → Next → Type 0) → List ℕ → Type 0
AreBegun t at sort seeds = (s : ℕ) → (Contains seeds s ↔ Begins t at sort s)

-- at each place where something is done, what its tables say is what the paths of the text say of its point
pub record IsExact (d : Parts) (i : ℕ) (t : Chart) (at : ℕ → Todo) : Type 0 where
  pub point : (p n : ℕ) → number_next (at p) ≡ Some n → (IsPlace t p ↔ IsPoint d i (at p))
  pub slot0 : (wide : Bool) (p n : ℕ) → number_next (at p) ≡ Some n → (InSlot0 wide t p ↔ IsSlot0 d wide i (at p))
  pub prologue : (wide : Bool) (p n : ℕ) → number_next (at p) ≡ Some n → (InPrologue wide t p ↔ IsPrologue d wide i (at p))
  pub late : (seeds : List ℕ) → AreBegun t at (λ k next. is_plain next ≡ false) seeds → (p n : ℕ) → number_next (at p) ≡ Some n →
      (Reached (stops_along Any t.stops) seeds p ↔ IsLate d i (at p))
  pub hot : (wide : Bool) (v : ℕ) (seeds : List ℕ) → AreBegun t at (λ k next. WritesNow d k v) seeds → (p n : ℕ) → number_next (at p) ≡ Some n →
      (Reached (stops_along (ZeroTime wide) t.stops) seeds p ↔ IsHot d wide i v (at p))
  pub slots : (c : Claims) (r : ℕ) (seeds : List ℕ) → AreBegun t at (λ k next. Ends d c i (kind_of d c i) next r) seeds →
      (p n : ℕ) → number_next (at p) ≡ Some n → (Reached (stops_along (Plain (is_wide c)) t.stops) seeds p ↔ HasSlot d c i (at p) r)

abbrev pub TextsAreExact : Type 0
TextsAreExact = (d : Parts) (i : ℕ) (q : Process) (stops : List Stop) (start : ℕ) → slice_get d.processes i ≡ Some q →
    (t : IsText q.body stops start) → IsExact d i (record { stops = stops; start = start }) t.at
