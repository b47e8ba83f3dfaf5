use Rattle.std.proofs.lemmas.Result.{err_from_is_err_and}
use Rattle.vs_syntax.specs.Grammar.{part, name, a_bare_name}
use Rattle.vs_syntax.specs.Reading.{stuck_part}
use Rattle.vs_syntax.proofs.Gets.{gets_part}
use Rattle.vs_parse_expressions.specs.Answers.{seen}
use Rattle.vs_parse_expressions.proofs.Exits.{fails_by}
use Rattle.vs_parser.proofs.declaration.BareNameElement.read.Goals as goal

pub returns-in_err-name : goal.returns-in_err-name
returns-in_err-name c =
    let p = err_from_is_err_and c.from_residual.result c.from_residual.ensures.1 in
    rw (p.1, p.2) (fails_by name (part a_bare_name) c.args._room c.args._room (seen c.args.tokens.now) (seen c.args.tokens.now)
    (λ deep at s. stuck_part s)
    c.in_err-name.field-0.0 (c.in_err-name.ensures c.args._room))

pub returns : goal.returns
returns c = gets_part (c.in_ok-name.ensures c.args._room)
