use Rattle.vs_claims.proofs.RootLemmas.{edge_is}
use Rattle.vs_claims.proofs.facts.Facts.edge.Goals as goal

pub returns : goal.returns
returns c = edge_is c.self.invariant c.args.self.now c.self.view_is c.args.place c.both.result c.both.ensures
