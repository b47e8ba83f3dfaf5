use Rattle.vs_vcd_writing.specs.Kept.{change_texts}
use Rattle.vs_vcd_writing.proofs.LineLemmas.{first_written}
use Rattle.vs_vcd_writing.proofs.lines.push_first.Goals as goal

pub returns : goal.returns
returns c =
    first_written c.args.text.now.items _ _ _ _ c.args.time (change_texts c.args.changes.now)
    c.in_ok-push_time.ensures c.in_ok-extend_from_slice.ensures.items c.in_ok-push_changes.ensures c.in_ok-extend_from_slice-2.ensures.items
