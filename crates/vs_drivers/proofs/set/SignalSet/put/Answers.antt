use Rattle.vs_drivers.proofs.SignalLemmas.{put_is}
use Rattle.vs_drivers.proofs.set.SignalSet.put.Goals as goal

pub returns : goal.returns
returns c = put_is c.self.inside.all c.insert.new.self c.args.self.now c.args.signal c.self.view_is c.in_ok-insert.ensures.updates
