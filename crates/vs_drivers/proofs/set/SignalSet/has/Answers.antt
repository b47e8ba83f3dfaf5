use Rattle.vs_drivers.proofs.SignalLemmas.{has_is}
use Rattle.vs_drivers.proofs.set.SignalSet.has.Goals as goal

pub returns : goal.returns
returns c = has_is c.self.inside.all c.args.self.now c.args.signal c.contains.result c.self.view_is c.contains.ensures
