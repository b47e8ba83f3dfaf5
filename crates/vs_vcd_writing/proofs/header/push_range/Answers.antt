use Rattle.std.proofs.Common.{ap, ◌∙◌, rules, w64}
use Rattle.std.proofs.lemmas.Int.{to_z-of_z}
use Rattle.std.specs.Fmt.{signed_decimal}
use mir.Val.{SFits}
use Rattle.vs_vcd_writing.proofs.RoomLemmas.{OnOk-from}
use Rattle.vs_vcd_writing.proofs.HeaderLemmas.{range_whole}
use Rattle.vs_vcd_writing.proofs.header.push_range.Goals as goal

pub returns : goal.returns
returns c =
    let b = c.in-Some.bounds in
    let left : SFits w64 b.left = search rules in
    let right : SFits w64 b.right = search rules in
    OnOk-from _ _ c.push_texts.result
    (range_whole c.args.text.now.items c.as_bytes-first.result.now c.as_bytes-last.result.now _ c.args.range b c.in-Some.is
    (c.as_bytes-first.ensures.value ∙ c.format.ensures.text ∙ ap signed_decimal (to_z-of_z w64 b.left left))
    (c.as_bytes-last.ensures.value ∙ c.format-2.ensures.text ∙ ap signed_decimal (to_z-of_z w64 b.right right))) c.push_texts.ensures
