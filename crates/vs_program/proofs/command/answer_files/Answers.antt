use Rattle.std.proofs.Common.{refl, subst}
use Rattle.vs_program.specs.Ends.{by_reading, by_refusal}
use Rattle.vs_program.specs.passes.Kept.{HasText}
use Rattle.vs_program.proofs.Ends.{ends_by_text, keeps_all}
use Rattle.vs_program.proofs.command.answer_files.Goals as goal

pub returns-in-Ok-Text : goal.returns-in-Ok-Text
returns-in-Ok-Text g c =
    let input = g.R.Read.remaining c.args.input in
    let read = subst (HasText c.args.call input) c.in-Ok-Text.field-0-is c.in-Ok-Text.ensures in
    ends_by_text input c.args.call _ c.in-Ok-Text.kept.source.items _ _ _ read.0 read.1 c.answer_text.ensures

pub returns-in-Ok-Refused : goal.returns-in-Ok-Refused
returns-in-Ok-Refused g c = by_refusal (keeps_all _) refl

pub returns-in-Err : goal.returns-in-Err
returns-in-Err g c = by_reading (keeps_all _) c.tell_input.ensures
