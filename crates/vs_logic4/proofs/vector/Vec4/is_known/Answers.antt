use Rattle.vs_logic4.proofs.Comparisons.{is_known_is}
use Rattle.vs_logic4.proofs.vector.Vec4.is_known.Goals as goal

pub returns : goal.returns
returns c = is_known_is c.self.invariant c.self.view_is
