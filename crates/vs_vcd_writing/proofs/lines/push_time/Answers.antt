use Rattle.std.proofs.Common.{◌∙◌}
use Rattle.vs_vcd_writing.proofs.RoomLemmas.{OnOk-from}
use Rattle.vs_vcd_writing.proofs.LineLemmas.{time_whole}
use Rattle.vs_vcd_writing.proofs.lines.push_time.Goals as goal

pub returns : goal.returns
returns c =
    OnOk-from _ _ c.push_texts.result (time_whole c.args.text.now.items c.as_bytes.result.now _ c.args.time (c.as_bytes.ensures.value ∙ c.format.ensures.text)) c.push_texts.ensures
