use Rattle.vs_maps.proofs.WalkLemmas.{places_in}
use Rattle.vs_maps.proofs.tables.Tables.leads_in.Goals as goal

pub returns-clause-points : goal.returns-clause-points
returns-clause-points c = places_in c.self.inside.text.now c.args.self.now c.self.view_is c.self.invariant.0.starts_in c.self.invariant.0.leads_in
