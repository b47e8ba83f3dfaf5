use Rattle.std.proofs.lemmas.Result.{err_from_is_err_and}
use Rattle.std.proofs.Common.{sym}
use Rattle.vs_syntax.specs.Grammar.{part, an_end, an_expr}
use Rattle.vs_parse_expressions.specs.Answers.{seen}
use Rattle.vs_parse_expressions.proofs.Exits.{fails_by}
use Rattle.vs_parser.proofs.InstanceLemmas.{end_none, end_read, end_stuck}
use Rattle.vs_parser.proofs.instance.OrderedElement.read.Goals as goal

pub returns-in_err-value : goal.returns-in_err-value
returns-in_err-value c =
    let p = err_from_is_err_and c.from_residual.result c.from_residual.ensures.1 in
    rw (p.1, p.2) (fails_by (part an_expr) an_end c.args.depth c.args.depth (seen c.args.tokens.now) (seen c.args.tokens.now)
    (λ deep at s. end_stuck c.args.depth deep _ at (sym c.if-begins_expr.ensures) s)
    c.in_err-value.field-0.0 c.in_err-value.ensures)

pub returns-in_ok-value : goal.returns-in_ok-value
returns-in_ok-value c = end_read c.args.depth _ _ _ (sym c.if-begins_expr.ensures) c.in_ok-value.ensures

pub returns-else-begins_expr : goal.returns-else-begins_expr
returns-else-begins_expr c = end_none c.args.depth _ (sym c.if-begins_expr.ensures)
