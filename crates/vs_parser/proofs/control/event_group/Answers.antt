use Rattle.std.proofs.Common.{refl}
use Rattle.std.proofs.lemmas.Result.{err_from_is_err_and}
use Rattle.vs_syntax.specs.vs_lexer.specs.declared.token.Mark.TheVariants as m
use Rattle.vs_syntax.specs.Grammar.{part, many, mark, an_event_expr}
use Rattle.vs_syntax.specs.Reading.{stuck_first, stuck_second}
use Rattle.vs_syntax.proofs.Gets.{gets_seq, gets_right}
use Rattle.vs_syntax.specs.declared.tree.EventControl.TheVariants as k
use Rattle.vs_syntax.specs.Views.{event_tree}
use Rattle.vs_parse_expressions.specs.Answers.{seen}
use Rattle.vs_parse_expressions.proofs.Exits.{fails_by}
use Rattle.vs_parse_expressions.specs.Parts.{ReadsWithin, marked}
use Rattle.vs_parse_expressions.proofs.Parts.{ended_as}
use Rattle.vs_parser.proofs.Controls.{grouped, star_read, terms_stuck, another_term}
use Rattle.vs_parser.proofs.control.event_group.Goals as goal

pub returns-in_err-first-in-None : goal.returns-in_err-first-in-None
returns-in_err-first-in-None c =
    let p = err_from_is_err_and c.from_residual.result c.from_residual.ensures.1 in
    rw (p.1, p.2) (fails_by (part an_event_expr) (grouped) c.args.depth c.args.depth (seen c.args.tokens.now) (seen c.args.tokens.now)
    (λ deep at s. stuck_first (terms_stuck c.args.depth deep _ at c.in-None.ensures (stuck_first s)))
    c.in_err-first-in-None.field-0.0 c.in_err-first-in-None.ensures)

pub returns-in_err-others-in-None : goal.returns-in_err-others-in-None
returns-in_err-others-in-None c =
    let p = err_from_is_err_and c.from_residual-in_err-others-in-None.result c.from_residual-in_err-others-in-None.ensures.1 in
    rw (p.1, p.2) (fails_by (many another_term) (grouped) c.args.depth c.args.depth (seen c.in_ok-first-in-None.first.rest.now) (seen c.args.tokens.now)
    (λ deep at s. stuck_first (terms_stuck c.args.depth deep _ at c.in-None.ensures (stuck_second c.in_ok-first-in-None.ensures s)))
    c.in_err-others-in-None.field-0.0 c.in_err-others-in-None.ensures)

pub returns-in-Some : goal.returns-in-Some
returns-in-Some c =
    ended_as (λ r. ReadsWithin event_tree (marked m.Open) grouped c.args.depth c.args.tokens.now r) m.Close c.args.depth _ c.in-Some.rest.now _
    (λ y e p. rw e (record { inner = _; whole = refl; gets = gets_seq (star_read c.args.depth _ _ c.in-Some.ensures) p }))
    (λ e p. fails_by (mark m.Close) grouped c.args.depth c.args.depth (seen c.in-Some.rest.now) (seen c.args.tokens.now) (λ deep at s. stuck_second (star_read c.args.depth _ _ c.in-Some.ensures) s) e p)
    c.ended.ensures.tree (c.ended.ensures.mark c.args.depth)

pub returns-in_ok-term-in-None : goal.returns-in_ok-term-in-None
returns-in_ok-term-in-None c =
    let terms = gets_right c.in-None.ensures (gets_seq c.in_ok-first-in-None.ensures c.in_ok-others-in-None.ensures) in
    ended_as (λ r. ReadsWithin event_tree (marked m.Open) grouped c.args.depth c.args.tokens.now r) m.Close c.args.depth (k.Terms c.in_ok-term-in-None.term c.in_ok-others-in-None.others.tree) c.in_ok-others-in-None.others.rest.now _
    (λ y e p. rw e (record { inner = _; whole = refl; gets = rw c.in_ok-term-in-None.ensures.ok (gets_seq terms p) }))
    (λ e p. fails_by (mark m.Close) grouped c.args.depth c.args.depth (seen c.in_ok-others-in-None.others.rest.now) (seen c.args.tokens.now) (λ deep at s. stuck_second terms s) e p)
    c.ended-in-None.ensures.tree (c.ended-in-None.ensures.mark c.args.depth)
