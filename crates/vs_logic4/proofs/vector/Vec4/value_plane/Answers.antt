use Rattle.std.proofs.Common.{sym, ap, ◌∙◌}
use Rattle.vs_logic4.specs.Planes.{value_plane}
use Rattle.vs_logic4.specs.PlaneLaws.{value_plane-digits_of_planes}
use Rattle.vs_logic4.proofs.vector.Vec4.value_plane.Goals as goal

pub returns : goal.returns
returns c =
    sym (value_plane-digits_of_planes _ _ c.self.inside.unknown c.self.invariant.value_below) ∙ ap value_plane c.self.view_is
