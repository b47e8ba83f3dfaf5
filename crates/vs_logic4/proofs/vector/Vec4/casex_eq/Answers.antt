use Rattle.vs_logic4.proofs.Comparisons.{casex_is}
use Rattle.vs_logic4.proofs.vector.Vec4.casex_eq.Goals as goal

pub returns : goal.returns
returns c = casex_is c.self.invariant c.other.invariant c.self.view_is c.other.view_is c.requires
