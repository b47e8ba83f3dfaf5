use Rattle.std.proofs.Common.{◌∙◌}
use Rattle.vs_logic4.proofs.Arithmetic.{difference_is}
use Rattle.vs_logic4.proofs.vector.Vec4.sub.Goals as goal

pub returns : goal.returns
returns c signed =
    c.number_if_known.ensures
    ∙ difference_is c.self.invariant c.other.invariant c.self.view_is c.other.view_is c.requires signed
