use Rattle.vs_logic4.specs.PlaneLaws.{masked_planes}
use Rattle.vs_logic4.proofs.vector.Vec4.from_planes.Goals as goal

pub returns : goal.returns
returns c = rw c.low_ones-ones.ensures (masked_planes c.args.width c.args.value c.args.unknown)
