use Rattle.std.proofs.lemmas.Result.{err_from_is_err_and}
use Rattle.vs_syntax.specs.Grammar.{◌·◌, form, comma_list, a_bare_name}
use Rattle.vs_syntax.specs.Reading.{stuck_second}
use Rattle.vs_syntax.proofs.Gets.{gets_seq}
use Rattle.vs_parse_expressions.specs.Answers.{seen}
use Rattle.vs_parse_expressions.proofs.Exits.{fails_by}
use Rattle.vs_parser.specs.Ports.{after_direction}
use Rattle.vs_parser.proofs.PortLemmas.{kind_gets}
use Rattle.vs_parser.proofs.port.declared_ports.Goals as goal

pub returns-in_err-names-clause-reads : goal.returns-in_err-names-clause-reads
returns-in_err-names-clause-reads c =
    let p = err_from_is_err_and c.from_residual.result c.from_residual.ensures.1 in
    rw (p.1, p.2) (fails_by (form · comma_list a_bare_name) after_direction c.args.depth c.args.depth (seen c.optional_kind-kind.result.1.now) (seen c.args.tokens.now)
    (λ deep at s. stuck_second (kind_gets c.args.depth _ _ _ c.optional_kind-kind.ensures) s)
    c.in_err-names.field-0.0 c.in_err-names.ensures)

pub returns-clause-reads : goal.returns-clause-reads
returns-clause-reads c = gets_seq (kind_gets c.args.depth _ _ _ c.optional_kind-kind.ensures) c.in_ok-names.ensures
