use Rattle.std.proofs.Common.{◌∙◌}
use Rattle.vs_vcd_writing.proofs.RoomLemmas.{OnOk-from}
use Rattle.vs_vcd_writing.proofs.HeaderLemmas.{shape_whole}
use Rattle.vs_vcd_writing.proofs.header.push_shape.Goals as goal

pub returns : goal.returns
returns c =
    OnOk-from _ _ c.push_texts.result
    (shape_whole c.args.text.now.items c.kind_text.result.now c.as_bytes-width.result.now _ c.args.signal.now c.kind_text.ensures (c.as_bytes-width.ensures.value ∙ c.format.ensures.text))
    c.push_texts.ensures
