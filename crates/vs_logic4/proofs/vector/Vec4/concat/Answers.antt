use Rattle.vs_logic4.proofs.Parts.{concatenation_is}
use Rattle.vs_logic4.proofs.vector.Vec4.concat.Goals as goal

pub invariant_of-result : goal.invariant_of-result
invariant_of-result c = (concatenation_is c.self.invariant c.low.invariant c.self.view_is c.low.view_is c.requires).0

pub returns : goal.returns
returns c = (concatenation_is c.self.invariant c.low.invariant c.self.view_is c.low.view_is c.requires).1
