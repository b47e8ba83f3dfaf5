use Rattle.vs_logic4.specs.Extensions.{resized_is}
use Rattle.vs_logic4.proofs.vector.Vec4.resize.Goals as goal

pub returns : goal.returns
returns c =
    rw (← c.self.view_is)
    (resized_is c.args.signed _ _ _ _ _ _ c.self.invariant.some c.extended.ensures c.extended-2.ensures)
