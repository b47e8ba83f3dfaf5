use Rattle.vs_logic4.proofs.Bitwise.{or_is}
use Rattle.vs_logic4.proofs.vector.Vec4.or.Goals as goal

pub invariant_of-result : goal.invariant_of-result
invariant_of-result c = (or_is c.self.invariant c.other.invariant c.self.view_is c.other.view_is c.requires).0

pub returns : goal.returns
returns c = (or_is c.self.invariant c.other.invariant c.self.view_is c.other.view_is c.requires).1
