use Rattle.vs_logic4.proofs.Comparisons.{casez_is}
use Rattle.vs_logic4.proofs.vector.Vec4.casez_eq.Goals as goal

pub returns : goal.returns
returns c = casez_is c.self.invariant c.other.invariant c.self.view_is c.other.view_is c.requires
