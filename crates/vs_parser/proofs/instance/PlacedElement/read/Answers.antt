use Rattle.std.proofs.lemmas.Result.{err_from_is_err_and}
use Rattle.vs_syntax.specs.Grammar.{part, name, an_instance}
use Rattle.vs_syntax.specs.Reading.{stuck_first, stuck_second, stuck_part}
use Rattle.vs_syntax.proofs.Gets.{gets_seq, gets_part}
use Rattle.vs_parse_expressions.specs.Answers.{seen}
use Rattle.vs_parse_expressions.proofs.Exits.{fails_by}
use Rattle.vs_parser.proofs.InstanceLemmas.{within}
use Rattle.vs_parser.proofs.instance.PlacedElement.read.Goals as goal

pub returns-in_err-name : goal.returns-in_err-name
returns-in_err-name c =
    let p = err_from_is_err_and c.from_residual.result c.from_residual.ensures.1 in
    rw (p.1, p.2) (fails_by name (part an_instance) c.args.depth c.args.depth (seen c.args.tokens.now) (seen c.args.tokens.now)
    (λ deep at s. stuck_part (stuck_first s))
    c.in_err-name.field-0.0 (c.in_err-name.ensures c.args.depth))

pub returns-in_err-ports : goal.returns-in_err-ports
returns-in_err-ports c =
    let p = err_from_is_err_and c.from_residual-in_err-ports.result c.from_residual-in_err-ports.ensures.1 in
    rw (p.1, p.2) (fails_by within (part an_instance) c.args.depth c.args.depth (seen c.in_ok-name.after_name.now) (seen c.args.tokens.now)
    (λ deep at s. stuck_part (stuck_second (c.in_ok-name.ensures c.args.depth) s))
    c.in_err-ports.field-0.0 c.in_err-ports.ensures)

pub returns : goal.returns
returns c = gets_part (gets_seq (c.in_ok-name.ensures c.args.depth) c.in_ok-ports.ensures)
