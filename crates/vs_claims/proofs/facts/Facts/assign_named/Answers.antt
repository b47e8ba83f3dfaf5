use Rattle.vs_claims.proofs.FactLemmas.{assign_named_is}
use Rattle.vs_claims.proofs.facts.Facts.assign_named.Goals as goal

pub returns : goal.returns
returns c = assign_named_is c.self.invariant c.args.self.now c.self.view_is c.args.name.now c.find.result c.find.ensures
