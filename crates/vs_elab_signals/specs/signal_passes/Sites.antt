-- Where scopes stand.
use Rattle.std.specs.Prelude.{◌≡◌, ℕ, Bool, ◌&&◌, ◌||◌, nat_lt, Option, None}
use Rattle.vs_design.specs.declared.design.ScopeKind.{ScopeKind}
use Rattle.vs_design.specs.declared.design.ScopeKind.TheVariants as opened_by
use Rattle.vs_scopes.specs.vs_widths.specs.Environment.{Environment}
use Rattle.vs_scopes.specs.Printed.{Path}
use Rattle.vs_scopes.specs.Scopes.{Scope, is_instance, deepest}

-- the place of the scope whose names are seen in one of this kind (clause 12.7)
abbrev pub outward_place : ScopeKind → Option ℕ → Option ℕ
outward_place opened_by.Module around = None
outward_place opened_by.Begin around = around

-- the path of a scope, and what names are bound to in its constant expressions
pub record IsSite (s : Scope) (path : Path) (known : Environment) : Type 0 where
  pub path_is : path ≡ s.path
  pub known_is : known ≡ s.known

-- whether a scope of this kind, with so many instances before it and so deep in others, passes a limit
abbrev pub passes_limit : ScopeKind → ℕ → ℕ → Bool
passes_limit kind instances deep = nat_lt deepest deep || (is_instance kind && nat_lt 16384 instances)
