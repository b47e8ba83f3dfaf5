use Rattle.std.proofs.lemmas.Result.{err_from_is_err_and}
use Rattle.vs_syntax.specs.vs_lexer.specs.declared.token.Mark.TheVariants as m
use Rattle.vs_syntax.specs.Grammar.{part, mark, for_parts, a_stmt}
use Rattle.vs_syntax.specs.Reading.{stuck_first}
use Rattle.vs_parse_expressions.specs.Answers.{seen}
use Rattle.vs_parse_expressions.proofs.Exits.{fails_by}
use Rattle.vs_parse_expressions.proofs.Parts.{beyond_part, beyond_behind, beyond_fails}
use Rattle.vs_parser.proofs.Assignments.{from_step, from_test, from_first}
use Rattle.vs_parser.proofs.assignment.for_header.Goals as goal

pub returns-in_err-inside : goal.returns-in_err-inside
returns-in_err-inside c =
    let p = err_from_is_err_and c.from_residual.result c.from_residual.ensures.1 in
    rw (p.1, p.2) (fails_by (mark m.Open) (for_parts) c.args.depth c.args.depth (seen c.args.tokens.now) (seen c.args.tokens.now)
    (λ deep at s. stuck_first s)
    c.in_err-inside.field-0.0 (c.in_err-inside.ensures c.args.depth))

pub returns-in_err-first : goal.returns-in_err-first
returns-in_err-first c =
    let p = err_from_is_err_and c.from_residual-in_err-first.result c.from_residual-in_err-first.ensures.1 in
    rw (p.1, p.2) (beyond_fails (from_first) (for_parts) _ c.args.depth _ _ c.in_err-first.field-0.0 (beyond_part (mark m.Open) from_first c.args.depth _ _ _ (c.in_ok-inside.ensures c.args.depth)) (c.in_err-first.ensures from_test))

pub returns-in_err-condition : goal.returns-in_err-condition
returns-in_err-condition c =
    let p = err_from_is_err_and c.from_residual-in_err-condition.result c.from_residual-in_err-condition.ensures.1 in
    rw (p.1, p.2) (beyond_fails (from_test) (for_parts) _ c.args.depth _ _ c.in_err-condition.field-0.0 (beyond_behind from_test from_first for_parts _ _ c.args.depth _ _ _ (beyond_part (mark m.Open) from_first c.args.depth _ _ _ (c.in_ok-inside.ensures c.args.depth)) (c.in_ok-first.ensures from_test)) (c.in_err-condition.ensures from_step))

pub returns-in_err-step : goal.returns-in_err-step
returns-in_err-step c =
    let p = err_from_is_err_and c.from_residual-in_err-step.result c.from_residual-in_err-step.ensures.1 in
    rw (p.1, p.2) (beyond_fails (from_step) (for_parts) _ c.args.depth _ _ c.in_err-step.field-0.0 (beyond_behind from_step from_test for_parts _ _ c.args.depth _ _ _ (beyond_behind from_test from_first for_parts _ _ c.args.depth _ _ _ (beyond_part (mark m.Open) from_first c.args.depth _ _ _ (c.in_ok-inside.ensures c.args.depth)) (c.in_ok-first.ensures from_test)) (c.in_ok-condition.ensures from_step)) (c.in_err-step.ensures (part a_stmt)))

pub returns : goal.returns
returns c =
    beyond_behind (part a_stmt) from_step for_parts _ _ c.args.depth _ _ _
    (beyond_behind from_step from_test for_parts _ _ c.args.depth _ _ _ (beyond_behind from_test from_first for_parts _ _ c.args.depth _ _ _ (beyond_part (mark m.Open) from_first c.args.depth _ _ _ (c.in_ok-inside.ensures c.args.depth)) (c.in_ok-first.ensures from_test)) (c.in_ok-condition.ensures from_step))
    (c.in_ok-step.ensures (part a_stmt))
