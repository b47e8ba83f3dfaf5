use Rattle.std.proofs.Common.{◌∙◌}
use Rattle.vs_logic4.proofs.Comparisons.{eq_is}
use Rattle.vs_logic4.proofs.vector.Vec4.eq.Goals as goal

pub returns : goal.returns
returns c =
    c.decided_or.ensures ∙ eq_is c.self.invariant c.other.invariant c.self.view_is c.other.view_is c.requires
