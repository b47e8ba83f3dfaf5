use Rattle.std.proofs.lemmas.Result.{err_from_is_err_and}
use Rattle.vs_syntax.specs.vs_lexer.specs.declared.token.Mark.TheVariants as m
use Rattle.vs_syntax.specs.Grammar.{◌·◌, ◌or◌, nothing, mark, instances, an_instance}
use Rattle.vs_syntax.specs.Grammar as grammar
use Rattle.vs_syntax.specs.Reading.{stuck_first, stuck_second}
use Rattle.vs_syntax.proofs.Gets.{gets_seq}
use Rattle.vs_parse_expressions.specs.Answers.{seen}
use Rattle.vs_parse_expressions.proofs.Exits.{fails_by}
use Rattle.vs_parser.proofs.InstanceLemmas.{within}
use Rattle.vs_parser.proofs.instance.instances.Goals as goal

pub returns-in_err-values : goal.returns-in_err-values
returns-in_err-values c =
    let p = err_from_is_err_and c.from_residual.result c.from_residual.ensures.1 in
    rw (p.1, p.2) (fails_by (mark m.Hash · within or nothing) instances c.args.depth c.args.depth (seen c.args.tokens.now) (seen c.args.tokens.now)
    (λ deep at s. stuck_first s)
    c.in_err-values.field-0.0 c.in_err-values.ensures)

pub returns-in_err-placed : goal.returns-in_err-placed
returns-in_err-placed c =
    let p = err_from_is_err_and c.from_residual-in_err-placed.result c.from_residual-in_err-placed.ensures.1 in
    rw (p.1, p.2) (fails_by (grammar.comma_list an_instance) instances c.args.depth c.args.depth (seen c.in_ok-values.values.rest.now) (seen c.args.tokens.now)
    (λ deep at s. stuck_second c.in_ok-values.ensures s)
    c.in_err-placed.field-0.0 c.in_err-placed.ensures)

pub returns : goal.returns
returns c = gets_seq c.in_ok-values.ensures c.in_ok-placed.ensures
