use Rattle.std.proofs.Common.{◌∙◌}
use Rattle.vs_logic4.proofs.Arithmetic.{product_of_is}
use Rattle.vs_logic4.proofs.vector.Vec4.mul.Goals as goal

pub returns : goal.returns
returns c signed =
    c.number_if_known.ensures
    ∙ product_of_is c.self.invariant c.other.invariant c.self.view_is c.other.view_is c.requires signed
