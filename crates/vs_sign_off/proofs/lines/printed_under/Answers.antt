use Rattle.std.proofs.Common.{Some, ◌∙◌, ap, sym}
use Rattle.vs_sign_off.proofs.PrintLemmas.{prints}
use Rattle.vs_sign_off.proofs.lines.printed_under.Goals as goal

pub returns : goal.returns
returns g c =
    prints c.args.design.now c.args.time c.args.steps c.in-Ok.outcome c.into_inner-text.result.items _ _ _ _ c.all_lines_are_strobed.ensures
    c.requires.silent c.in-Ok.ensures.ran (c.new-lines.ensures.bytes ∙ ap Some c.new-room.ensures.items) (sym c.into_inner-text.ensures)
    (sym c.is_whole.ensures ∙ c.if-not-is_whole.false)
