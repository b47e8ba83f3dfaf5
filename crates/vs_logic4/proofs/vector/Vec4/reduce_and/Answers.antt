use Rattle.std.proofs.Common.{◌∙◌}
use Rattle.vs_logic4.proofs.Comparisons.{reduced_and_is}
use Rattle.vs_logic4.proofs.vector.Vec4.reduce_and.Goals as goal

pub returns : goal.returns
returns c = c.decided_or.ensures ∙ rw c.low_ones.ensures (reduced_and_is c.self.invariant c.self.view_is)
