-- The continuous assignments and the processes of a scope.
use Rattle.std.specs.Prelude.{ℕ, List, [], ◌∷◌, ◌++◌, Option, Some, None, map}
use Rattle.std.specs.List.{flat_map}
use Rattle.vs_syntax.specs.declared.tree.Declarator.{Declarator}
use Rattle.vs_syntax.specs.declared.tree.Direction.{Direction}
use Rattle.vs_syntax.specs.declared.tree.Direction.TheVariants.{Input, Output}
use Rattle.vs_syntax.specs.declared.tree.NetAssignment.{NetAssignment}
use Rattle.vs_syntax.specs.declared.tree.Expr.{Expr}
use Rattle.vs_syntax.specs.declared.tree.Left.{Left}
use Rattle.vs_syntax.specs.declared.tree.Item.{Item}
use Rattle.vs_syntax.specs.declared.tree.Item.TheVariants as i
use Rattle.vs_syntax.specs.declared.tree.Stmt.{Stmt}
use Rattle.vs_elab_signals.specs.vs_scopes.specs.Pieces.{Piece, plain}
use Rattle.vs_scopes.specs.Ports.{ModulePort}
use Rattle.vs_scopes.specs.Scopes.{Scope}

-- what an assignment assigns to: a left side, or the signal of a name that is declared with a value (clauses 6.1.1 and 6.2.1)
pub data Assignee : Type 0 where
  places : Left → Assignee
  named_signal : List ℕ → Assignee

-- an assignment of an expression
pub record Assignment : Type 0 where
  pub target : Assignee
  pub value : Expr

abbrev pub assignment_of : List ℕ → Option Expr → List Assignment
assignment_of n None = []
assignment_of n (Some e) = record { target = named_signal n; value = e } ∷ []

-- the declaration assignments among names of a declaration (clauses 6.1.1 and 6.2.1)
abbrev pub values_of : List Declarator → List Assignment
values_of ds = flat_map (λ (d : Declarator). assignment_of d.name.items d.value) ds

abbrev pub net_assignment : NetAssignment → Assignment
net_assignment a = record { target = places a.target; value = a.value }

-- the continuous assignments of an item: those of an `assign`, and the declaration assignments of nets (clauses 6.1.1 and 6.1.2)
abbrev pub drivers_by_item : Item → List Assignment
drivers_by_item (i.Wire f ds) = values_of ds.items
drivers_by_item (i.Assign xs) = map net_assignment xs.items
drivers_by_item _ = []

-- the continuous assignments of a piece
abbrev pub drivers_in : Piece → List Assignment
drivers_in (plain x) = drivers_by_item x
drivers_in _ = []

-- the continuous assignments of the text of a scope, in its order
abbrev pub drivers_of : Scope → List Assignment
drivers_of s = flat_map drivers_in s.pieces

-- the continuous assignment of a port: into the instance, or out of it (clauses 12.3.3 and 12.3.10)
pub data PortDriver : Type 0 where
  -- a port that is given the value of an expression of the scope around
  into : List ℕ → Expr → PortDriver
  -- a port whose value is given to an expression of the scope around, which is the left side of an assignment
  out_of : List ℕ → Expr → PortDriver

abbrev pub connected : Direction → List ℕ → Expr → PortDriver
connected Input n e = into n e
connected Output n e = out_of n e

abbrev pub port_driver : ModulePort → Option Expr → List PortDriver
port_driver p None = []
port_driver p (Some e) = connected p.direction p.name e ∷ []

abbrev pub port_drivers : List ModulePort → List (Option Expr) → List PortDriver
port_drivers [] es = []
port_drivers (p ∷ ps) [] = []
port_drivers (p ∷ ps) (e ∷ es) = port_driver p e ++ port_drivers ps es

-- the continuous assignments of the ports of a scope, in port order (clause 12.3.10)
abbrev pub port_drivers_of : Scope → List PortDriver
port_drivers_of s = port_drivers s.ports s.ends

-- the name of the port
abbrev pub port_of : PortDriver → List ℕ
port_of (into n e) = n
port_of (out_of n e) = n

-- a continuous assignment of a scope: one of a port, or one of its text
pub data Driver : Type 0 where
  of_port : PortDriver → Driver
  of_text : Assignment → Driver

-- what a process does: it sets a variable to the value in its declaration, runs a statement once, or runs it for ever
pub data Behavior : Type 0 where
  sets : Assignment → Behavior
  runs : Stmt → Behavior
  repeats : Stmt → Behavior

abbrev pub setting : List ℕ → Option Expr → List Behavior
setting n None = []
setting n (Some e) = sets (record { target = named_signal n; value = e }) ∷ []

-- the processes of an item: declaration assignments of variables, which act as `initial`, and an `initial` or `always`
-- (clauses 6.2.1, 9.9.1 and 9.9.2)
abbrev pub behaviors_by_item : Item → List Behavior
behaviors_by_item (i.Reg f ds) = flat_map (λ (d : Declarator). setting d.name.items d.value) ds.items
behaviors_by_item (i.Integer ds) = flat_map (λ (d : Declarator). setting d.name.items d.value) ds.items
behaviors_by_item (i.Initial x) = runs x ∷ []
behaviors_by_item (i.Always x) = repeats x ∷ []
behaviors_by_item _ = []

-- the processes of a piece
abbrev pub behaviors_in : Piece → List Behavior
behaviors_in (plain x) = behaviors_by_item x
behaviors_in _ = []

-- the process of the declaration assignment of a port, where it has one (clause 6.2.1)
abbrev pub port_setting : ModulePort → List Behavior
port_setting p = setting p.name p.value

-- the processes of a scope, in text order: those of its ports first
abbrev pub behaviors_of : Scope → List Behavior
behaviors_of s = flat_map port_setting s.ports ++ flat_map behaviors_in s.pieces
