use Rattle.vs_vcd_writing.proofs.HeaderLemmas.{name_whole}
use Rattle.vs_vcd_writing.proofs.header.push_name.Goals as goal

pub returns : goal.returns
returns c =
    name_whole c.args.text.now.items _ _ _ _ c.args.signal.now c.deref.ensures.value c.in_ok-push_texts.ensures c.in_ok-push_range.ensures c.in_ok-extend_from_slice.ensures.items
