-- What a process of a source is in a design.
use Rattle.std.specs.Prelude.{◌≡◌, ℕ, ◌+◌, ◌⊎◌, true}
use Rattle.std.specs.declared.boxed.Box.{Box}
use Rattle.std.specs.declared.alloc.Global.{Global}
use Rattle.vs_syntax.specs.declared.tree.Stmt.{Stmt}
use Rattle.vs_design.specs.declared.expression.Typed.{Typed}
use Rattle.vs_design.specs.declared.statement.Target.{Target}
use Rattle.vs_design.specs.declared.statement.Statement.{Statement}
use Rattle.vs_design.specs.declared.statement.Statement.TheVariants as d
use Rattle.vs_design.specs.declared.design.ProcessKind.{ProcessKind}
use Rattle.vs_design.specs.declared.design.ProcessKind.TheVariants.{Initial, Always}
use Rattle.vs_widths.specs.declared.kinds.AssignmentKind.TheVariants.{Procedural}
use Rattle.vs_scopes.specs.declared.faults.Reason.{Reason}
use Rattle.vs_scopes.specs.Printed.{Path}
use Rattle.vs_elab_statements.specs.Surroundings.{Surroundings}
use Rattle.vs_elab_statements.specs.Statements.{IsAssignment, IsStatement, assign_fault, HasFaultAt, count_of, is_overfull}
use Rattle.vs_elab_statements.specs.Members.{Assignment, Behavior, sets, runs, repeats}

-- whether a process runs once or for ever (clauses 6.2.1 and 9.9)
abbrev pub kind_of : Behavior → ProcessKind
kind_of (sets a) = Initial
kind_of (runs x) = Initial
kind_of (repeats x) = Always

-- The body of a process of the scope of a path: a declaration assignment is a blocking assignment, and an `always` is a `forever` (clauses 6.2.1 and 9.9).
pub data IsBody (envs : Path → Surroundings) (p : Path) : Behavior → Statement → Type 0 where
  is_set : (a : Assignment) (k : ℕ) (t : Target) (x : Typed) → IsAssignment Procedural (envs p).names a.target a.value t x →
      IsBody envs p (sets a) (d.Assign k t x)
  is_run : (x : Stmt) (y : Statement) → IsStatement envs p x y → IsBody envs p (runs x) y
  is_repeat : (x : Stmt) (k : ℕ) (y : Box Statement Global) → IsStatement envs p x y.value → IsBody envs p (repeats x) (d.Forever k y)

-- how many statements a process has, blocks apart
abbrev pub statements_of : Behavior → ℕ
statements_of (sets a) = 1
statements_of (runs x) = count_of x
statements_of (repeats x) = 1 + count_of x

-- a fault of a part of a process of the scope of a path, by the path of the innermost scope of that part
abbrev pub HasPartFault : (Path → Surroundings) → Reason → Path → Path → Behavior → Type 0
HasPartFault envs r at p (sets a) = (assign_fault r Procedural (envs p).names a.target a.value ≡ true) × (at ≡ p)
HasPartFault envs r at p (runs x) = HasFaultAt envs r at p x
HasPartFault envs r at p (repeats x) = HasFaultAt envs r at p x

-- a fault of a process of the scope of a path: of one of its parts, or it has more statements than have numbers (profile)
abbrev pub HasBehaviorFault : (Path → Surroundings) → Reason → Path → Path → Behavior → Type 0
HasBehaviorFault envs r at p b = HasPartFault envs r at p b ⊎ ((is_overfull r (statements_of b) ≡ true) × (at ≡ p))
