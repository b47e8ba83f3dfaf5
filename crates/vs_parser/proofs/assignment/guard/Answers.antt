use Rattle.std.proofs.lemmas.Result.{err_from_is_err_and}
use Rattle.vs_syntax.specs.vs_lexer.specs.declared.token.Mark.TheVariants as m
use Rattle.vs_syntax.specs.Grammar.{◌·◌, part, mark, guarded, an_expr}
use Rattle.vs_syntax.specs.Reading.{stuck_first}
use Rattle.vs_parse_expressions.specs.Answers.{seen}
use Rattle.vs_parse_expressions.proofs.Exits.{fails_by}
use Rattle.vs_parse_expressions.proofs.Parts.{beyond_part, leads_on}
use Rattle.vs_parser.proofs.assignment.guard.Goals as goal

pub returns-in_err-inside : goal.returns-in_err-inside
returns-in_err-inside c = λ a.
    let p = err_from_is_err_and c.from_residual.result c.from_residual.ensures.1 in
    rw (p.1, p.2) (fails_by (mark m.Open) (guarded a) c.args.depth c.args.depth (seen c.args.tokens.now) (seen c.args.tokens.now)
    (λ deep at s. stuck_first s)
    c.in_err-inside.field-0.0 (c.in_err-inside.ensures c.args.depth))

pub returns : goal.returns
returns c = λ a. leads_on a (part an_expr · mark m.Close · a) (guarded a) _ _ c.args.depth _ _ _ (beyond_part _ _ _ _ _ _ (c.in_ok-inside.ensures c.args.depth)) (c.expr_until.ensures a)
