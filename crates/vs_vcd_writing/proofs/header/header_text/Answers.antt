use Rattle.vs_vcd_writing.proofs.HeaderLemmas.{header_whole}
use Rattle.vs_vcd_writing.proofs.header.header_text.Goals as goal

pub returns : goal.returns
returns c =
    header_whole _ _ _ _ c.args.design.now c.new-text.ensures.items c.in_ok-push_tick.ensures c.in_ok-push_outline.ensures c.in_ok-extend_from_slice.ensures.items
