use Rattle.std.proofs.Common.{refl}
use Rattle.vs_logic4.specs.PlaneLaws.{same_planes-iff}
use Rattle.vs_logic4.proofs.vector.Vec4.same.Goals as goal

pub returns : goal.returns
returns c =
    rw (← c.self.view_is, ← c.other.view_is)
    (same_planes-iff _ _ _ _ _ _ _ c.self.invariant c.other.invariant refl)
