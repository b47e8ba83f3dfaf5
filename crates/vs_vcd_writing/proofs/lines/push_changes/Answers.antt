use Rattle.vs_vcd_writing.proofs.LineLemmas.{changes_more}
use Rattle.vs_vcd_writing.proofs.lines.push_changes.Goals as goal

pub loop-change-preserved : goal.loop-change-preserved
loop-change-preserved c =
    changes_more c.args.text.now.items _ _ c.args.changes.now c.loop-change.change-index c.change-item.result _ c.loop-change-test.true c.change-item.is
    c.loop-change.invariant c.in_ok-push_change.ensures
