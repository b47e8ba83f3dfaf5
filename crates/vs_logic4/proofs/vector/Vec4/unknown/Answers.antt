use Rattle.vs_logic4.specs.PlaneLaws.{unknown_is}
use Rattle.vs_logic4.proofs.vector.Vec4.unknown.Goals as goal

pub returns : goal.returns
returns c = rw c.low_ones-ones.ensures (unknown_is c.args.width)
