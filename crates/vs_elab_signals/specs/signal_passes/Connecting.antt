-- What the ports of instances are connected to.
use Rattle.std.specs.Prelude.{◌≡◌, ◌||◌, true, false, List, Option, Some, None}
use Rattle.std.specs.Borrow.{Bor}
use Rattle.std.specs.declared.vec.Vec.{Vec}
use Rattle.std.specs.declared.alloc.Global.{Global}
use Rattle.vs_syntax.specs.declared.tree.Expr.{Expr}
use Rattle.vs_scopes.specs.Connections.{ends_of, is_mismatch}
use Rattle.vs_scopes.specs.Ports.{ModulePort, port_names}
use Rattle.vs_scopes.specs.Declarations.{Use}
use Rattle.vs_scopes.specs.Scopes.{has_wrong_end}
use Rattle.vs_scopes.specs.scopes_passes.Parts.{read_ends}

-- what the ports of an instance are connected to, where its connections fit them
abbrev pub ConnectsTo : Use → List ModulePort → Option (Vec (Option (Bor Expr)) Global) → Type 0
ConnectsTo u ps None = (is_mismatch u.ports (port_names ps) || has_wrong_end ps (ends_of u.ports (port_names ps))) ≡ true
ConnectsTo u ps (Some v) =
    ((is_mismatch u.ports (port_names ps) || has_wrong_end ps (ends_of u.ports (port_names ps))) ≡ false) × (read_ends v.items ≡ ends_of u.ports (port_names ps))
