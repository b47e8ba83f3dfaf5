use Rattle.std.proofs.lemmas.Result.{err_from_is_err_and}
use Rattle.vs_syntax.specs.Grammar.{◌·◌, parameter_form, a_constant}
use Rattle.vs_syntax.specs.Grammar as grammar
use Rattle.vs_syntax.specs.Reading.{stuck_first, stuck_second}
use Rattle.vs_syntax.proofs.Gets.{gets_seq}
use Rattle.vs_parse_expressions.specs.Answers.{seen}
use Rattle.vs_parse_expressions.proofs.Exits.{fails_by}
use Rattle.vs_parser.proofs.parameter.parameters.Goals as goal

pub returns-in_err-said : goal.returns-in_err-said
returns-in_err-said c =
    let p = err_from_is_err_and c.from_residual.result c.from_residual.ensures.1 in
    rw (p.1, p.2) (fails_by parameter_form (parameter_form · grammar.comma_list a_constant) c.args.depth c.args.depth (seen c.args.tokens.now) (seen c.args.tokens.now)
    (λ deep at s. stuck_first s)
    c.in_err-said.field-0.0 c.in_err-said.ensures)

pub returns-in_err-names : goal.returns-in_err-names
returns-in_err-names c =
    let p = err_from_is_err_and c.from_residual-in_err-names.result c.from_residual-in_err-names.ensures.1 in
    rw (p.1, p.2) (fails_by (grammar.comma_list a_constant) (parameter_form · grammar.comma_list a_constant) c.args.depth c.args.depth (seen c.in_ok-said.said.rest.now) (seen c.args.tokens.now)
    (λ deep at s. stuck_second c.in_ok-said.ensures s)
    c.in_err-names.field-0.0 c.in_err-names.ensures)

pub returns : goal.returns
returns c = gets_seq c.in_ok-said.ensures c.in_ok-names.ensures
