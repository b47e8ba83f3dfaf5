use Rattle.std.proofs.lemmas.Result.{err_from_is_err_and}
use Rattle.vs_syntax.specs.Grammar.{part, many, name, select, an_event_expr}
use Rattle.vs_syntax.specs.Reading.{stuck_first, stuck_second, stuck_part}
use Rattle.vs_syntax.proofs.Gets.{gets_seq, gets_part}
use Rattle.vs_parse_expressions.specs.Answers.{seen}
use Rattle.vs_parse_expressions.proofs.Exits.{fails_by}
use Rattle.vs_parser.proofs.control.event_term.Goals as goal

pub returns-in_err-name : goal.returns-in_err-name
returns-in_err-name c =
    let p = err_from_is_err_and c.from_residual.result c.from_residual.ensures.1 in
    rw (p.1, p.2) (fails_by (name) (part an_event_expr) c.args.depth c.args.depth (seen c.edge_at-edge.result.1.now) (seen c.args.tokens.now)
    (λ deep at s. stuck_part (stuck_second (c.edge_at-edge.ensures c.args.depth) (stuck_first s)))
    c.in_err-name.field-0.0 (c.in_err-name.ensures c.args.depth))

pub returns-in_err-selects : goal.returns-in_err-selects
returns-in_err-selects c =
    let p = err_from_is_err_and c.from_residual-in_err-selects.result c.from_residual-in_err-selects.ensures.1 in
    rw (p.1, p.2) (fails_by (many select) (part an_event_expr) c.args.depth c.args.depth (seen c.in_ok-name.after_name.now) (seen c.args.tokens.now)
    (λ deep at s. stuck_part (stuck_second (c.edge_at-edge.ensures c.args.depth) (stuck_second (c.in_ok-name.ensures c.args.depth) s)))
    c.in_err-selects.field-0.0 c.in_err-selects.ensures)

pub returns : goal.returns
returns c = gets_part (gets_seq (c.edge_at-edge.ensures c.args.depth) (gets_seq (c.in_ok-name.ensures c.args.depth) c.in_ok-selects.ensures))
