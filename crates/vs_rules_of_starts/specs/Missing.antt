-- Walks on a map from its start that take no time, on which nothing of a sort is done.
use Rattle.std.specs.Prelude.{ℕ, ◌≡◌, ◌||◌, not, Bool, true, false, Option, Some, None, List, [], ◌∷◌, slice_index_or, if◌then◌else◌}
use Rattle.std.specs.List.{Contains}
use Rattle.vs_design.specs.declared.statement.Statement.{Statement}
use Rattle.vs_rules_of_starts.specs.vs_process.specs.Stops.{Stop, stops_tos}
use Rattle.vs_drivers.specs.vs_maps.specs.declared.along.Along.TheVariants.{ZeroTime}
use Rattle.vs_drivers.specs.vs_maps.specs.Reaches.{Chart, passes, pause_at, stops_along}
use Rattle.vs_drivers.specs.vs_maps.specs.Ranges.{statement_at}

-- a walk leads there from the start, on which nothing of the sort is done
pub data MissingAt (t : Chart) (sort : ℕ → Type 0) : ℕ → Type 0 where
  begins : MissingAt t sort t.start
  goes_on : (p q : ℕ) → MissingAt t sort p → (sort p → ⊥) → passes (ZeroTime false) (pause_at t p) ≡ true → Contains (stops_tos t.stops p) q →
      MissingAt t sort q

-- where a map leads in no time, but from the places that are marked
abbrev pub unmarked : List Bool → List Stop → ℕ → List ℕ
unmarked marks stops p = if slice_index_or marks p false then [] else stops_along (ZeroTime false) stops p

abbrev pub is_one : List ℕ → Bool
is_one (to ∷ []) = true
is_one _ = false

-- a place is the end: nothing is done there, and it leads to one place alone
abbrev pub is_end : Option Statement → List ℕ → Bool
is_end None tos = is_one tos
is_end (Some s) tos = false

-- whether a walk that takes no time ends at a place: at the end, or at a control that takes time
abbrev pub stops_here : Chart → ℕ → Bool
stops_here t p = is_end (statement_at t p) (stops_tos t.stops p) || not (passes (ZeroTime false) (pause_at t p))

-- on each walk in no time something of the sort is done before it ends
abbrev pub IsSure : Chart → (ℕ → Type 0) → Type 0
IsSure t sort = (p : ℕ) → MissingAt t sort p → stops_here t p ≡ false
