use Rattle.std.proofs.lemmas.Result.{err_from_is_err_and}
use Rattle.std.proofs.Common.{sym, ◌∙◌}
use Rattle.vs_syntax.specs.Symbols.{any_text}
use Rattle.vs_syntax.specs.Grammar.{token, part, a_dump_argument, an_expr}
use Rattle.vs_parse_expressions.specs.Answers.{seen}
use Rattle.vs_parse_expressions.proofs.Exits.{fails_by}
use Rattle.vs_parse_expressions.proofs.Tasks.{text_stuck, text_read, dumped_stuck, dumped_read}
use Rattle.vs_parse_expressions.proofs.task.DumpedElement.read.Goals as goal

pub returns-in_err-text : goal.returns-in_err-text
returns-in_err-text c =
    let p = err_from_is_err_and c.from_residual.result c.from_residual.ensures.1 in
    rw (p.1, p.2) (fails_by (token any_text) (part a_dump_argument) c.args.depth c.args.depth (seen c.args.tokens.now) (seen c.args.tokens.now)
    (λ deep at s. text_stuck c.args.depth deep _ at (sym c.begins_text.ensures ∙ c.if-begins_text.true) s)
    c.in_err-text.field-0.0 (c.in_err-text.ensures c.args.depth))

pub returns-then-begins_text : goal.returns-then-begins_text
returns-then-begins_text c = text_read c.args.depth _ _ _ (sym c.begins_text.ensures ∙ c.if-begins_text.true) (c.in_ok-text.ensures c.args.depth)

pub returns-in_err-value : goal.returns-in_err-value
returns-in_err-value c =
    let p = err_from_is_err_and c.from_residual-in_err-value.result c.from_residual-in_err-value.ensures.1 in
    rw (p.1, p.2) (fails_by (part an_expr) (part a_dump_argument) c.args.depth c.args.depth (seen c.args.tokens.now) (seen c.args.tokens.now)
    (λ deep at s. dumped_stuck c.args.depth deep _ at (sym c.begins_text.ensures ∙ c.if-begins_text.false) s)
    c.in_err-value.field-0.0 c.in_err-value.ensures)

pub returns : goal.returns
returns c = rw c.in_ok-inner.ensures.ok (dumped_read c.args.depth _ _ _ (sym c.begins_text.ensures ∙ c.if-begins_text.false) c.in_ok-value.ensures)
