use Rattle.vs_claims.proofs.RootLemmas.{entries_are}
use Rattle.vs_claims.proofs.facts.Facts.entries_of.Goals as goal

pub returns : goal.returns
returns c = entries_are c.self.invariant c.args.self.now c.self.view_is c.args.v c.row.result.now c.row.ensures
