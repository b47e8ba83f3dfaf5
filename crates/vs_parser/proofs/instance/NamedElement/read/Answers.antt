use Rattle.std.proofs.lemmas.Result.{err_from_is_err_and}
use Rattle.vs_syntax.specs.vs_lexer.specs.declared.token.Mark.TheVariants as m
use Rattle.vs_syntax.specs.Grammar.{◌·◌, part, mark, name, an_end, a_connection}
use Rattle.vs_syntax.specs.Reading.{stuck_first, stuck_second, stuck_part}
use Rattle.vs_syntax.proofs.Gets.{gets_seq, gets_part}
use Rattle.vs_parse_expressions.specs.Answers.{seen}
use Rattle.vs_parse_expressions.proofs.Exits.{fails_by}
use Rattle.vs_parser.proofs.instance.NamedElement.read.Goals as goal

pub returns-in_err-after_dot : goal.returns-in_err-after_dot
returns-in_err-after_dot c =
    let p = err_from_is_err_and c.from_residual.result c.from_residual.ensures.1 in
    rw (p.1, p.2) (fails_by (mark m.Dot) (part a_connection) c.args.depth c.args.depth (seen c.args.tokens.now) (seen c.args.tokens.now)
    (λ deep at s. stuck_part (stuck_first s))
    c.in_err-after_dot.field-0.0 (c.in_err-after_dot.ensures c.args.depth))

pub returns-in_err-name : goal.returns-in_err-name
returns-in_err-name c =
    let p = err_from_is_err_and c.from_residual-in_err-name.result c.from_residual-in_err-name.ensures.1 in
    rw (p.1, p.2) (fails_by name (part a_connection) c.args.depth c.args.depth (seen c.in_ok-after_dot.after_dot.now) (seen c.args.tokens.now)
    (λ deep at s. stuck_part (stuck_second (c.in_ok-after_dot.ensures c.args.depth) (stuck_first s)))
    c.in_err-name.field-0.0 (c.in_err-name.ensures c.args.depth))

pub returns-in_err-value : goal.returns-in_err-value
returns-in_err-value c =
    let p = err_from_is_err_and c.from_residual-in_err-value.result c.from_residual-in_err-value.ensures.1 in
    rw (p.1, p.2) (fails_by (mark m.Open · an_end · mark m.Close) (part a_connection) c.args.depth c.args.depth (seen c.in_ok-name.after_name.now) (seen c.args.tokens.now)
    (λ deep at s. stuck_part (stuck_second (c.in_ok-after_dot.ensures c.args.depth) (stuck_second (c.in_ok-name.ensures c.args.depth) s)))
    c.in_err-value.field-0.0 c.in_err-value.ensures)

pub returns : goal.returns
returns c = gets_part (gets_seq (c.in_ok-after_dot.ensures c.args.depth) (gets_seq (c.in_ok-name.ensures c.args.depth) c.in_ok-value.ensures))
