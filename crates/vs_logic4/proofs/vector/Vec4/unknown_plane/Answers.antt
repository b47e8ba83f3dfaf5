use Rattle.std.proofs.Common.{sym, ap, ◌∙◌}
use Rattle.vs_logic4.specs.Planes.{unknown_plane}
use Rattle.vs_logic4.specs.PlaneLaws.{unknown_plane-digits_of_planes}
use Rattle.vs_logic4.proofs.vector.Vec4.unknown_plane.Goals as goal

pub returns : goal.returns
returns c =
    sym (unknown_plane-digits_of_planes _ c.self.inside.value _ c.self.invariant.unknown_below) ∙ ap unknown_plane c.self.view_is
