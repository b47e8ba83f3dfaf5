-- What surrounds the statements of a scope.
use Rattle.std.specs.Prelude.{ℕ, List}
use Rattle.vs_scopes.specs.vs_widths.specs.Environment.{Environment}
use Rattle.vs_scopes.specs.Printed.{Path}
use Rattle.vs_scopes.specs.Scopes.{Scope, environment_at}

-- what names are bound to in a scope, and how many ticks a unit of time is (clauses 12.7 and 19.8)
pub record Surroundings : Type 0 where
  pub names : Environment
  pub ratio : ℕ

-- the surroundings in the scope of a path, among scopes, where a unit of time is so many ticks (clauses 12.7 and 19.8)
abbrev pub surroundings_at : ℕ → List Scope → Path → Surroundings
surroundings_at ratio ss p = record { names = environment_at ss p; ratio = ratio }
