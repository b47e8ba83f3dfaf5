use Rattle.vs_logic4.specs.PlaneLaws.{high_impedance_is}
use Rattle.vs_logic4.proofs.vector.Vec4.high_impedance.Goals as goal

pub returns : goal.returns
returns c = rw c.low_ones.ensures (high_impedance_is c.args.width)
