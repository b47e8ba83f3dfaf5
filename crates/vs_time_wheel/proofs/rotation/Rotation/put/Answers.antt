use Rattle.std.proofs.Common.{ap}
use Rattle.std.proofs.Math.ListN.{set}
use Rattle.vs_time_wheel.proofs.Slots.{flagged_set, flag_of-some}
use Rattle.vs_time_wheel.proofs.rotation.Rotation.put.Goals as goal

pub invariant_of-self : goal.invariant_of-self
invariant_of-self g c = flagged_set c.self.inside.slots.items c.self.inside.flags c.set_flag.new.flags c.args.slot 1 c.args.chain c.requires.within c.self.invariant (flag_of-some c.args.chain c.requires.some) c.set_flag.ensures

pub returns : goal.returns
returns g c = ap (λ slots. set slots c.args.slot c.args.chain) c.self.view_is
