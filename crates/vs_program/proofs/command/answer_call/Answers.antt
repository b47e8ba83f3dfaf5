use Rattle.std.proofs.Common.{◌∙◌, ◌==◌, ap, sym}
use Rattle.vs_program.proofs.Ends.{ends_within, ends_without}
use Rattle.vs_program.proofs.command.answer_call.Goals as goal

pub returns-then-is_empty : goal.returns-then-is_empty
returns-then-is_empty g c =
    let files = c.args.call.sources.files in
    let none = ap (λ n. n == 0) (sym files.ok.0) ∙ sym c.is_empty.ensures ∙ c.if-is_empty.true in
    ends_without files.items _ c.args.call _ _ _ none c.answer.ensures

pub returns : goal.returns
returns g c =
    let files = c.args.call.sources.files in
    let some = ap (λ n. n == 0) (sym files.ok.0) ∙ sym c.is_empty.ensures ∙ c.if-is_empty.false in
    ends_within files.items _ c.args.call _ _ _ some c.answer_files.ensures
