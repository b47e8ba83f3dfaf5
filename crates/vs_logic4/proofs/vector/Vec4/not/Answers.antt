use Rattle.vs_logic4.proofs.Bitwise.{not_is}
use Rattle.vs_logic4.proofs.vector.Vec4.not.Goals as goal

pub invariant_of-result : goal.invariant_of-result
invariant_of-result c = rw c.low_ones.ensures (not_is c.self.invariant c.self.view_is).0

pub returns : goal.returns
returns c = rw c.low_ones.ensures (not_is c.self.invariant c.self.view_is).1
