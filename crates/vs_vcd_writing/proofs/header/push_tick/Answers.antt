use Rattle.std.proofs.Common.{ap, ◌∙◌}
use Rattle.vs_vcd_writing.specs.Text.{magnitude_word, unit_word}
use Rattle.vs_vcd_writing.proofs.RoomLemmas.{OnOk-from}
use Rattle.vs_vcd_writing.proofs.HeaderLemmas.{tick_whole}
use Rattle.vs_vcd_writing.proofs.header.push_tick.Goals as goal

pub returns : goal.returns
returns c =
    OnOk-from _ _ c.push_texts.result
    (tick_whole c.args.text.now.items c.magnitude_text-magnitude.result.now c.unit_text-unit.result.now _ c.args.design.now
    (c.magnitude_text-magnitude.ensures ∙ ap (λ t. magnitude_word t.precision.magnitude) c.timescale.ensures) (c.unit_text-unit.ensures ∙ ap (λ t. unit_word t.precision.unit) c.timescale.ensures)) c.push_texts.ensures
