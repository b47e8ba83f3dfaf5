use Rattle.std.proofs.Common.{◌∙◌}
use Rattle.vs_logic4.proofs.Arithmetic.{unary_plus_is}
use Rattle.vs_logic4.proofs.vector.Vec4.plus.Goals as goal

pub returns : goal.returns
returns c = c.number_if_known.ensures ∙ unary_plus_is c.self.invariant c.self.view_is
