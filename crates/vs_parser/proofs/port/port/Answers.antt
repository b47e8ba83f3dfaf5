use Rattle.std.proofs.lemmas.Result.{err_from_is_err_and}
use Rattle.vs_syntax.specs.Grammar.{part, name}
use Rattle.vs_parse_expressions.specs.Answers.{seen}
use Rattle.vs_parse_expressions.proofs.Exits.{fails_by}
use Rattle.vs_parser.specs.Ports.{named_by, value_by}
use Rattle.vs_parser.proofs.PortLemmas.{name_beyond, name_stuck, value_stuck, name_shorter}
use Rattle.vs_parser.proofs.port.port.Goals as goal

pub returns-in_err-name-clause-reads : goal.returns-in_err-name-clause-reads
returns-in_err-name-clause-reads c =
    let p = err_from_is_err_and c.from_residual.result c.from_residual.ensures.1 in
    rw (p.1, p.2) (fails_by name (part (named_by c.args.said)) c.args.depth c.args.depth (seen c.args.tokens.now) (seen c.args.tokens.now)
    (λ deep at s. name_stuck c.args.said c.args.depth deep _ at s)
    c.in_err-name.field-0.0 (c.in_err-name.ensures c.args.depth))

pub returns-in_err-value-clause-reads : goal.returns-in_err-value-clause-reads
returns-in_err-value-clause-reads c =
    let p = err_from_is_err_and c.from_residual-in_err-value.result c.from_residual-in_err-value.ensures.1 in
    rw (p.1, p.2) (fails_by (value_by c.args.said) (part (named_by c.args.said)) c.args.depth c.args.depth (seen c.in_ok-name.after_name.now) (seen c.args.tokens.now)
    (λ deep at s. value_stuck c.args.said c.args.depth deep _ _ at _ (c.in_ok-name.ensures c.args.depth) s)
    c.in_err-value.field-0.0 c.in_err-value.ensures)

pub returns-clause-reads : goal.returns-clause-reads
returns-clause-reads c = name_beyond c.args.said c.args.depth _ _ _ _ _ (c.in_ok-name.ensures c.args.depth) c.in_ok-value.ensures

pub returns-clause-shorter : goal.returns-clause-shorter
returns-clause-shorter c = name_shorter (value_by c.args.said) c.args.depth _ _ _ _ _ (c.in_ok-name.ensures c.args.depth) c.in_ok-value.ensures
