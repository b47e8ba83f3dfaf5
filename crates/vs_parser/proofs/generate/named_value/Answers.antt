use Rattle.std.proofs.lemmas.Result.{err_from_is_err_and}
use Rattle.vs_syntax.specs.vs_lexer.specs.declared.token.Mark.TheVariants as m
use Rattle.vs_syntax.specs.Grammar.{part, mark, name, named_value, an_expr}
use Rattle.vs_syntax.specs.Reading.{stuck_first, stuck_second}
use Rattle.vs_syntax.proofs.Gets.{gets_seq}
use Rattle.vs_parser.specs.vs_parse_expressions.specs.Answers.{seen}
use Rattle.vs_parser.specs.vs_parse_expressions.proofs.Exits.{fails_by}
use Rattle.vs_parser.proofs.generate.named_value.Goals as goal

pub returns-in_err-name : goal.returns-in_err-name
returns-in_err-name c =
    let p = err_from_is_err_and c.from_residual.result c.from_residual.ensures.1 in
    rw (p.1, p.2) (fails_by name named_value c.args.depth c.args.depth (seen c.args.tokens.now) (seen c.args.tokens.now)
    (λ deep at s. (stuck_first s))
    c.in_err-name.field-0.0 (c.in_err-name.ensures c.args.depth))

pub returns-in_err-after_sign : goal.returns-in_err-after_sign
returns-in_err-after_sign c =
    let p = err_from_is_err_and c.from_residual-in_err-after_sign.result c.from_residual-in_err-after_sign.ensures.1 in
    rw (p.1, p.2) (fails_by (mark m.Assign) named_value c.args.depth c.args.depth (seen c.in_ok-name.after_name.now) (seen c.args.tokens.now)
    (λ deep at s. (stuck_second (c.in_ok-name.ensures c.args.depth) (stuck_first s)))
    c.in_err-after_sign.field-0.0 (c.in_err-after_sign.ensures c.args.depth))

pub returns-in_err-value : goal.returns-in_err-value
returns-in_err-value c =
    let p = err_from_is_err_and c.from_residual-in_err-value.result c.from_residual-in_err-value.ensures.1 in
    rw (p.1, p.2) (fails_by (part an_expr) named_value c.args.depth c.args.depth (seen c.in_ok-after_sign.after_sign.now) (seen c.args.tokens.now)
    (λ deep at s. (stuck_second (c.in_ok-name.ensures c.args.depth) (stuck_second (c.in_ok-after_sign.ensures c.args.depth) s)))
    c.in_err-value.field-0.0 c.in_err-value.ensures)

pub returns : goal.returns
returns c = (gets_seq (c.in_ok-name.ensures c.args.depth) (gets_seq (c.in_ok-after_sign.ensures c.args.depth) c.in_ok-value.ensures))
