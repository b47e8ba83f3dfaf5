use Rattle.vs_claims.proofs.MapLemmas.{chart_at}
use Rattle.vs_claims.proofs.maps.tables.Goals as goal

pub new-requires-clause-within : goal.new-requires-clause-within
new-requires-clause-within c =
    (chart_at c.args.design.now c.args.texts.now c.requires c.loop-text.text-index c.text-item.result c.loop-text-test.true c.text-item.is).1.leads_in

pub new-requires-clause-start : goal.new-requires-clause-start
new-requires-clause-start c =
    (chart_at c.args.design.now c.args.texts.now c.requires c.loop-text.text-index c.text-item.result c.loop-text-test.true c.text-item.is).1.starts_in
