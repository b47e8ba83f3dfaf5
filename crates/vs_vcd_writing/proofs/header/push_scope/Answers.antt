use Rattle.vs_vcd_writing.proofs.HeaderLemmas.{scope_whole}
use Rattle.vs_vcd_writing.proofs.header.push_scope.Goals as goal

pub returns : goal.returns
returns c =
    scope_whole c.args.text.now.items c.scope_text.result.now c.args.name.now _ _ _ c.args.kind c.scope_text.ensures
    c.in_ok-push_texts.ensures c.in_ok-extend_from_slice.ensures.items c.in_ok-extend_from_slice-2.ensures.items
