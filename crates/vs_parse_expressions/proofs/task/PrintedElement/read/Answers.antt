use Rattle.std.proofs.lemmas.Result.{err_from_is_err_and}
use Rattle.vs_syntax.specs.Grammar.{part, an_argument, an_expr}
use Rattle.vs_parse_expressions.specs.Answers.{seen}
use Rattle.vs_parse_expressions.proofs.Exits.{fails_by}
use Rattle.vs_parse_expressions.proofs.Tasks.{time_read, value_stuck, value_read}
use Rattle.vs_parse_expressions.proofs.task.PrintedElement.read.Goals as goal

pub returns-in-Some : goal.returns-in-Some
returns-in-Some c = time_read c.args.depth _ _ c.in-Some.ensures

pub returns-in_err-value-in-None : goal.returns-in_err-value-in-None
returns-in_err-value-in-None c =
    let p = err_from_is_err_and c.from_residual.result c.from_residual.ensures.1 in
    rw (p.1, p.2) (fails_by (part an_expr) (part an_argument) c.args.depth c.args.depth (seen c.args.tokens.now) (seen c.args.tokens.now)
    (λ deep at s. value_stuck c.args.depth deep _ at c.in-None.ensures s)
    c.in_err-value-in-None.field-0.0 c.in_err-value-in-None.ensures)

pub returns-in_ok-value-in-None : goal.returns-in_ok-value-in-None
returns-in_ok-value-in-None c = value_read c.args.depth _ _ _ c.in-None.ensures c.in_ok-value-in-None.ensures
