use Rattle.vs_logic4.specs.PlaneLaws.{of_number-mask}
use Rattle.vs_logic4.proofs.vector.Vec4.from_number.Goals as goal

pub returns : goal.returns
returns c = rw c.low_ones.ensures (of_number-mask c.args.width c.args.number)
