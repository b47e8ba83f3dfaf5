use Rattle.std.proofs.Common.{◌∙◌}
use Rattle.vs_logic4.proofs.Arithmetic.{negation_is}
use Rattle.vs_logic4.proofs.vector.Vec4.neg.Goals as goal

pub returns : goal.returns
returns c signed = c.number_if_known.ensures ∙ negation_is c.self.invariant c.self.view_is signed
