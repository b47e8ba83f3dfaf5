use Rattle.std.proofs.Common.{◌∙◌, sym}
use Rattle.vs_process.specs.Steps.{item_matches}
use Rattle.vs_process.proofs.Starts.{start_more}
use Rattle.vs_process.proofs.choices.start_matching.Goals as goal

pub loop-i-preserved : goal.loop-i-preserved
loop-i-preserved c =
    start_more (item_matches c.args.kind c.args.digits c.args.store.now c.args.time) c.args.items.now c.args.starts.now c.loop-i.i c.index-items-i.result c.loop-i-test.true
    c.index-items-i.is (sym c.item_matches.ensures ∙ c.if-item_matches.false)
    ∙ c.loop-i.invariant
