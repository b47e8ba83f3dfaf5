use Rattle.vs_vcd_writing.proofs.HeaderLemmas.{outline_more}
use Rattle.vs_vcd_writing.proofs.header.push_outline.Goals as goal

pub loop-entry-preserved : goal.loop-entry-preserved
loop-entry-preserved c =
    outline_more c.args.text.now.items _ _ c.args.design.now _ c.loop-entry.entry-index c.entry-item.result c.outline-entry-items.ensures c.loop-entry-test.true c.entry-item.is
    c.loop-entry.invariant c.in_ok-push_entry.ensures
