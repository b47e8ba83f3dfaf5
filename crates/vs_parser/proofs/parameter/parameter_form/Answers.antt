use Rattle.std.proofs.lemmas.Result.{err_from_is_err_and}
use Rattle.vs_syntax.specs.Grammar.{form, parameter_form}
use Rattle.vs_parse_expressions.specs.Answers.{seen}
use Rattle.vs_parse_expressions.proofs.Exits.{fails_by}
use Rattle.vs_parser.proofs.Declarations.{integer_read, vector_read, vector_stuck}
use Rattle.vs_parser.proofs.parameter.parameter_form.Goals as goal

pub returns-in_err-form : goal.returns-in_err-form
returns-in_err-form c =
    let p = err_from_is_err_and c.from_residual.result c.from_residual.ensures.1 in
    rw (p.1, p.2) (fails_by form parameter_form c.args.depth c.args.depth (seen c.args.tokens.now) (seen c.args.tokens.now)
    (λ deep at s. vector_stuck c.args.depth deep _ at c.in_default.ensures s)
    c.in_err-form.field-0.0 c.in_err-form.ensures)

pub returns-in_default : goal.returns-in_default
returns-in_default c = vector_read c.args.depth _ _ _ c.in_default.ensures c.in_ok-form.ensures

pub returns : goal.returns
returns c = integer_read c.args.depth _ _ c.in-Some.ensures
