use Rattle.std.proofs.Common.{◌≤◌, arith}
use Rattle.std.proofs.lemmas.Result.{err_from_is_err_and}
use Rattle.vs_syntax.specs.Grammar.{part, many, an_event_expr}
use Rattle.vs_syntax.specs.Reading.{stuck_many}
use Rattle.vs_syntax.proofs.Gets.{gets_stop}
use Rattle.vs_syntax.specs.Views.{other_event_tree}
use Rattle.vs_parse_expressions.specs.Answers.{seen}
use Rattle.vs_parse_expressions.proofs.Exits.{fails_by}
use Rattle.vs_parse_expressions.proofs.Rows.{along_push, shorter, all_read}
use Rattle.vs_parser.proofs.Controls.{another_term, term_goes, term_read, term_stuck}
use Rattle.vs_parser.proofs.control.other_terms.Goals as goal

pub returns-in_err-term : goal.returns-in_err-term
returns-in_err-term c =
    let p = err_from_is_err_and c.from_residual.result c.from_residual.ensures.1 in
    rw (p.1, p.2) (fails_by (part an_event_expr) (many another_term) c.args.depth c.args.depth (seen c.in-Some.after.now) (seen c.args.tokens.now)
    (λ deep at s. let none : 0 ≤ c.args.depth = omega arith in c.loop-separator.invariant.along.stops deep at (stuck_many (term_goes _ _ c.in-Some.separator c.in-Some.ensures) none (term_stuck c.args.depth deep _ _ at c.in-Some.separator c.in-Some.ensures s)))
    c.in_err-term.field-0.0 c.in_err-term.ensures)

pub loop-separator-smaller : goal.loop-separator-smaller
loop-separator-smaller c = shorter another_term c.args.depth (seen c.loop-separator.rest.now) (seen c.in_ok-term.term.rest.now) _ (term_goes _ _ c.in-Some.separator c.in-Some.ensures) (term_read c.args.depth _ _ _ c.in-Some.separator _ c.in-Some.ensures c.in_ok-term.ensures)

pub loop-separator-preserved : goal.loop-separator-preserved
loop-separator-preserved c = record {
  along = along_push another_term c.args.depth _ _ _ other_event_tree _ _ _ c.in_ok-push.ensures.items c.loop-separator.invariant.along (term_goes _ _ c.in-Some.separator c.in-Some.ensures)
      (term_read c.args.depth _ _ _ c.in-Some.separator _ c.in-Some.ensures c.in_ok-term.ensures);
}

pub returns : goal.returns
returns c = all_read another_term c.args.depth _ _ _ _ c.loop-separator.invariant.along (gets_stop c.in_default.ensures)
