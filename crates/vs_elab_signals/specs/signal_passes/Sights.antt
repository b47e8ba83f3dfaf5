-- How names stand at places of the text.
use Rattle.std.specs.Prelude.{◌≡◌, ℕ, ◌<◌, Bool, ◌&&◌, is_some, List, Option, Some, None, map, slice_get, if◌then◌else◌}
use Rattle.vs_scopes.specs.vs_widths.specs.declared.bindings.Binding.{Binding}
use Rattle.vs_scopes.specs.Printed.{Path}
use Rattle.vs_scopes.specs.Nets.{Sight, unseen, seen, coming, is_before, is_net}
use Rattle.vs_scopes.specs.Scopes.{Scope, named, sight_in}
use Rattle.vs_elab_signals.specs.declared.sights.Level.{Level}
use Rattle.vs_elab_signals.specs.declared.sights.Level.TheVariants.{Here, Late, Outward}
use Rattle.vs_elab_signals.specs.declared.sights.Sight.{Sight as FoundSight}
use Rattle.vs_elab_signals.specs.declared.sights.Sight.TheVariants as f

-- names, each with a place
abbrev pub placed : ℕ → List (List ℕ) → List (List ℕ × ℕ)
placed place ns = map (λ (n : List ℕ). (n, place)) ns

-- how a name stands in one scope before a place, where this place declares it first, and its text binds it so
abbrev pub level_by : Bool → Option Binding → Level
level_by told None = Outward
level_by told (Some x) = if told && is_net x then Late else Here

abbrev pub level_of : Option ℕ → ℕ → Option Binding → Level
level_of found place bound = if is_before found place then Here else level_by (is_some found) bound

-- how a name stands in a scope, by how it does in that scope alone
abbrev pub sight_of_level : Scope → List ℕ → Level → Sight
sight_of_level s n Here = seen
sight_of_level s n Late = coming (named s n)
sight_of_level s n Outward = s.sight n

-- a path is that of a name of the scope at a place among these
pub record IsNameOf (ss : List Scope) (n : List ℕ) (p : Path) (place : ℕ) : Type 0 where
  pub scope : Scope
  pub stands : slice_get ss place ≡ Some scope
  pub path : p ≡ named scope n

-- how a name stands, with the scope of a net by its place among these
abbrev pub IsSight : List Scope → List ℕ → Sight → FoundSight → Type 0
IsSight ss n unseen f.Unseen = Unit {0}
IsSight ss n seen f.Seen = Unit {0}
IsSight ss n (coming p) (f.Coming place) = IsNameOf ss n p place
IsSight ss n s x = ⊥

-- the scope of a net is one of so many
abbrev pub IsIn : ℕ → FoundSight → Type 0
IsIn count (f.Coming place) = place < count
IsIn count x = Unit {0}

abbrev pub IsInSome : ℕ → Option FoundSight → Type 0
IsInSome count None = Unit {0}
IsInSome count (Some x) = IsIn count x

-- how a name stands in the scope at a place before one of its pieces, where that scope declares it; otherwise it stands as around that scope
abbrev pub IsHere : List Scope → Scope → ℕ → ℕ → List ℕ → Option FoundSight → Type 0
IsHere ss s place piece n None = sight_in s piece n ≡ s.sight n
IsHere ss s place piece n (Some x) = IsSight ss n (sight_in s piece n) x
