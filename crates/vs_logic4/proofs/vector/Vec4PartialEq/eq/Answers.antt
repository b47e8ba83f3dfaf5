use Rattle.vs_logic4.specs.Sameness.{same_digits-from_iff}
use Rattle.vs_logic4.proofs.vector.Vec4PartialEq.eq.Goals as goal

pub returns : goal.returns
returns c = same_digits-from_iff c.same.result c.args.self.now c.args.other.now c.same.ensures
