use Rattle.std.proofs.Common.{refl}
use Rattle.std.proofs.lemmas.Result.{err_from_is_err_and}
use Rattle.vs_syntax.specs.vs_lexer.specs.declared.token.Mark.TheVariants as m
use Rattle.vs_syntax.specs.Symbols.{a_mark}
use Rattle.vs_syntax.specs.Grammar.{part, may_value, an_expr}
use Rattle.vs_parse_expressions.specs.Answers.{seen}
use Rattle.vs_parse_expressions.proofs.Exits.{fails_by}
use Rattle.vs_parse_expressions.proofs.Forms.{present_stuck, present_read}
use Rattle.vs_parser.proofs.PortLemmas.{absent_value}
use Rattle.vs_parser.proofs.port.declared_value.Goals as goal

pub returns-in_default : goal.returns-in_default
returns-in_default c = absent_value c.args.depth _ _ _ c.in_default.ensures c.without_value.ensures.none c.without_value.ensures.rest

pub returns-in_err-value : goal.returns-in_err-value
returns-in_err-value c =
    let p = err_from_is_err_and c.from_residual.result c.from_residual.ensures.1 in
    rw (p.1, p.2) (fails_by (part an_expr) may_value c.args.depth c.args.depth (seen c.in-Some.after.now) (seen c.args.tokens.now)
    (λ deep at s. present_stuck (a_mark m.Assign) (part an_expr) c.args.depth deep _ _ at refl c.in-Some.ensures s)
    c.in_err-value.field-0.0 c.in_err-value.ensures)

pub returns : goal.returns
returns c = present_read (a_mark m.Assign) (part an_expr) c.args.depth _ _ _ _ c.in-Some.ensures c.in_ok-value.ensures
