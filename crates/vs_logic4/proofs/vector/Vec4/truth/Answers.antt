use Rattle.std.proofs.Common.{◌∙◌}
use Rattle.vs_logic4.proofs.Comparisons.{truth_is}
use Rattle.vs_logic4.proofs.vector.Vec4.truth.Goals as goal

pub returns : goal.returns
returns c = c.decided_or.ensures ∙ truth_is c.self.invariant c.self.view_is
