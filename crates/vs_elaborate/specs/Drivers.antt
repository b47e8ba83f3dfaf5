-- What a continuous assignment of a source is in a design.
use Rattle.std.specs.Prelude.{Bool, false, ◌||◌, []}
use Rattle.vs_design.specs.declared.expression.Typed.{Typed}
use Rattle.vs_design.specs.declared.statement.Target.{Target}
use Rattle.vs_elab_statements.specs.vs_scopes.specs.vs_widths.specs.Environment.{Environment}
use Rattle.vs_elab_statements.specs.vs_scopes.specs.vs_widths.specs.Findings.{has_width_fault}
use Rattle.vs_elab_statements.specs.vs_scopes.specs.vs_widths.specs.Meants.{Meant}
use Rattle.vs_elab_statements.specs.vs_widths.specs.Expressions.{meant, name_meant}
use Rattle.vs_elab_statements.specs.vs_widths.specs.declared.kinds.AssignmentKind.TheVariants.{Continuous}
use Rattle.vs_elab_statements.specs.vs_widths.specs.Lefts.{Aimed, name_aimed, expr_aimed}
use Rattle.vs_elab_statements.specs.vs_widths.specs.Aiming.{IsTarget}
use Rattle.vs_elab_statements.specs.vs_scopes.specs.declared.faults.Reason.{Reason}
use Rattle.vs_elab_statements.specs.vs_scopes.specs.declared.faults.Reason.TheVariants.{Width}
use Rattle.vs_elab_statements.specs.Members.{Assignment, PortDriver, into, out_of, Driver, of_port, of_text}
use Rattle.vs_elab_statements.specs.Statements.{IsSource, IsAssignment, assign_fault}

-- In what follows names are bound in a scope, and in the scope around it, as the two environments say.

-- where the target of a port's assignment stands: in the scope for an input, around it for an output (clause 12.3.3)
abbrev pub side_of : Environment → Environment → PortDriver → Environment
side_of own outer (into n e) = own
side_of own outer (out_of n e) = outer

-- what the target of a port's assignment means (clauses 12.3.3 and 12.3.10)
abbrev pub port_target : Environment → Environment → PortDriver → Aimed
port_target own outer (into n e) = name_aimed Continuous (own n) []
port_target own outer (out_of n e) = expr_aimed Continuous outer e

-- what the source of a port's assignment means (clauses 12.3.3 and 12.3.10)
abbrev pub port_source : Environment → Environment → PortDriver → Meant
port_source own outer (into n e) = meant outer e
port_source own outer (out_of n e) = name_meant (own n)

-- The two sides of the continuous assignment of a port: sizes are fitted as in an assignment (clause 12.3.10).
pub record IsPortAssign (own outer : Environment) (d : PortDriver) (t : Target) (x : Typed) : Type 0 where
  pub target : IsTarget Continuous (side_of own outer d) (port_target own outer d) t
  pub source : IsSource (port_source own outer d) t.width x

-- the two sides of a continuous assignment (clauses 6.1 and 12.3.10)
abbrev pub IsDriver : Environment → Environment → Driver → Target → Typed → Type 0
IsDriver own outer (of_port d) t x = IsPortAssign own outer d t x
IsDriver own outer (of_text a) t x = IsAssignment Continuous own a.target a.value t x

-- whether a continuous assignment of the text has a fault
abbrev pub driver_fault : Reason → Environment → Assignment → Bool
driver_fault r env a = assign_fault r Continuous env a.target a.value

-- whether the continuous assignment of a port has a fault
abbrev pub port_driver_fault : Reason → Environment → Environment → PortDriver → Bool
port_driver_fault (Width w) own outer d = has_width_fault w (port_target own outer d).finding || has_width_fault w (port_source own outer d).finding
port_driver_fault _ own outer d = false
