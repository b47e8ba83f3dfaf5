use Rattle.std.proofs.Common.{◌∙◌, sym}
use Rattle.vs_process.specs.Steps.{is_default}
use Rattle.vs_process.proofs.Starts.{start_more}
use Rattle.vs_process.proofs.choices.start_default.Goals as goal

pub loop-i-preserved : goal.loop-i-preserved
loop-i-preserved c =
    start_more is_default c.args.items.now c.args.starts.now c.loop-i.i c.index-items-i.result c.loop-i-test.true c.index-items-i.is (sym c.is_default.ensures ∙ c.if-is_default.false)
    ∙ c.loop-i.invariant
