use Rattle.vs_claims.proofs.FactLemmas.{signal_named_is}
use Rattle.vs_claims.proofs.facts.Facts.signal_named.Goals as goal

pub returns : goal.returns
returns c = signal_named_is c.self.invariant c.args.self.now c.self.view_is c.args.name.now c.find.result c.find.ensures
