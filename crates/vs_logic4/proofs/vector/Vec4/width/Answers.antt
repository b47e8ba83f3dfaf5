use Rattle.std.proofs.Common.{sym}
use Rattle.vs_logic4.specs.PlaneLaws.{length-digits_of_planes}
use Rattle.vs_logic4.proofs.vector.Vec4.width.Goals as goal

pub returns-clause-digits : goal.returns-clause-digits
returns-clause-digits c = rw (← c.self.view_is) (sym (length-digits_of_planes _ _ _))
