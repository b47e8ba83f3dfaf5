-- Parts of statements that are made already, with their numbers.
use Rattle.std.specs.Prelude.{◌≡◌, ℕ, ◌+◌, ◌^◌, ◌<◌, ◌≤◌, Option}
use Rattle.std.specs.declared.boxed.Box.{Box}
use Rattle.std.specs.declared.alloc.Global.{Global}
use Rattle.vs_syntax.specs.declared.tree.Expr.{Expr}
use Rattle.vs_syntax.specs.declared.tree.Left.{Left}
use Rattle.vs_syntax.specs.declared.tree.Stmt.{Stmt}
use Rattle.vs_design.specs.declared.expression.Typed.{Typed}
use Rattle.vs_design.specs.declared.statement.Statement.{Statement}
use Rattle.vs_design.specs.declared.statement.Target.{Target}
use Rattle.vs_elab_statements.specs.vs_scopes.specs.Printed.{Path}
use Rattle.vs_elab_statements.specs.declared.faults.StatementFault.{StatementFault}
use Rattle.vs_elab_statements.specs.declared.faults.StatementFault.TheVariants.{Overfull}
use Rattle.vs_elab_statements.specs.Surroundings.{Surroundings}
use Rattle.vs_elab_statements.specs.passes.Bodies.{statement_burden, statements_burden, numbered_burden, IsFree, MeansStatement, IsNumbered, else_list, MeansElse}

-- the next number was taken
abbrev pub TakesOne : ℕ → ℕ → Type 0
TakesOne first next = (next ≡ first + 1) × (first + 1 < 2 ^ 32)

-- why it wasn't: there is none behind it
abbrev pub TakesOneNot : ℕ → StatementFault → Type 0
TakesOneNot first e = (e ≡ Overfull) × (2 ^ 32 ≤ first + 1)

-- a numbered assignment without a fault
abbrev pub IsBegun : (Path → Surroundings) → Path → ℕ → Left → Expr → ℕ → Target → Typed → ℕ → Type 0
IsBegun envs p first l e k t x next = IsFree envs p (numbered_burden (envs p) first l e) × IsNumbered (envs p) first l e k t x next

-- a number, and a statement without a fault that has the numbers behind it
abbrev pub IsNumberedBody : (Path → Surroundings) → Path → ℕ → Stmt → ℕ → Statement → ℕ → Type 0
IsNumberedBody envs p first x k y next = IsFree envs p (statement_burden (envs p) (first + 1) x) × ((k ≡ first) × MeansStatement envs p (first + 1) x y next)

-- what stands behind `else`, without a fault
abbrev pub IsOtherwise : (Path → Surroundings) → Path → ℕ → Option (Box Stmt Global) → Statement → ℕ → Type 0
IsOtherwise envs p first o y next = IsFree envs p (statements_burden (envs p) first (else_list o)) × MeansElse envs p first o y next
