use Rattle.std.proofs.Common.{◌∙◌}
use Rattle.vs_logic4.proofs.Arithmetic.{sum_is}
use Rattle.vs_logic4.proofs.vector.Vec4.add.Goals as goal

pub returns : goal.returns
returns c signed =
    c.number_if_known.ensures
    ∙ sum_is c.self.invariant c.other.invariant c.self.view_is c.other.view_is c.requires signed
