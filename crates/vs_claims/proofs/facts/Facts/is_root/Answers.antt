use Rattle.vs_claims.proofs.RootLemmas.{root_told}
use Rattle.vs_claims.proofs.facts.Facts.is_root.Goals as goal

pub returns : goal.returns
returns c =
    root_told c.args.self.now.design c.args.self.now.claims c.args.v c.entries_with_root.result.now c.is_empty.result c.entries_with_root.ensures
    c.is_empty.ensures
