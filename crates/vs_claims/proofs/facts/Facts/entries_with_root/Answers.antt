use Rattle.vs_claims.proofs.RootLemmas.{root_entries_are}
use Rattle.vs_claims.proofs.facts.Facts.entries_with_root.Goals as goal

pub returns : goal.returns
returns c = root_entries_are c.self.invariant c.args.self.now c.self.view_is c.args.root c.row.result.now c.row.ensures
