use Rattle.std.proofs.Common.{◌≤◌, ◌-◌}
use Rattle.std.proofs.lemmas.Result.{err_from_is_err_and}
use Rattle.vs_syntax.specs.vs_lexer.specs.declared.token.Mark.TheVariants as m
use Rattle.vs_syntax.specs.Grammar.{part, mark, a_stmt, a_target, an_expr}
use Rattle.vs_syntax.specs.Reading.{stuck_first, stuck_second}
use Rattle.vs_syntax.proofs.Gets.{gets_seq}
use Rattle.vs_syntax.specs.Views.{stmt_tree}
use Rattle.vs_parse_expressions.specs.Answers.{seen, ReadsTree}
use Rattle.vs_parse_expressions.proofs.Exits.{fails_by}
use Rattle.vs_parser.specs.Timings.{timing}
use Rattle.vs_parse_expressions.proofs.Parts.{ended_as}
use Rattle.vs_parser.proofs.Statements.{assign_stuck, assign_read}
use Rattle.vs_parser.proofs.assignment.assigned_stmt.Goals as goal

pub returns-in_err-target : goal.returns-in_err-target
returns-in_err-target c =
    let p = err_from_is_err_and c.from_residual.result c.from_residual.ensures.1 in
    let h : 2 ≤ c.args.depth = c.requires.depth in
    rw (p.1, p.2) (fails_by (part a_target) (part a_stmt) (c.args.depth - 1) c.args.depth (seen c.args.tokens.now) (seen c.args.tokens.now)
    (λ deep at s. assign_stuck c.args.depth deep _ at h c.requires.first (stuck_first s))
    c.in_err-target.field-0.0 c.in_err-target.ensures)

pub returns-in_err-timing : goal.returns-in_err-timing
returns-in_err-timing c =
    let p = err_from_is_err_and c.from_residual-in_err-timing.result c.from_residual-in_err-timing.ensures.1 in
    let h : 2 ≤ c.args.depth = c.requires.depth in
    rw (p.1, p.2) (fails_by timing (part a_stmt) (c.args.depth - 1) c.args.depth (seen c.in_ok-target.target.rest.now) (seen c.args.tokens.now)
    (λ deep at s. assign_stuck c.args.depth deep _ at h c.requires.first (stuck_second c.in_ok-target.ensures (stuck_first s)))
    c.in_err-timing.field-0.0 c.in_err-timing.ensures)

pub returns-in_err-value : goal.returns-in_err-value
returns-in_err-value c =
    let p = err_from_is_err_and c.from_residual-in_err-value.result c.from_residual-in_err-value.ensures.1 in
    let h : 2 ≤ c.args.depth = c.requires.depth in
    rw (p.1, p.2) (fails_by (part an_expr) (part a_stmt) (c.args.depth - 1) c.args.depth (seen c.in_ok-timing.timing.rest.now) (seen c.args.tokens.now)
    (λ deep at s. assign_stuck c.args.depth deep _ at h c.requires.first (stuck_second c.in_ok-target.ensures (stuck_second c.in_ok-timing.ensures (stuck_first s))))
    c.in_err-value.field-0.0 c.in_err-value.ensures)

pub returns : goal.returns
returns c =
    let h : 2 ≤ c.args.depth = c.requires.depth in
    ended_as (λ r. ReadsTree (part a_stmt) c.args.depth c.args.tokens.now stmt_tree r) m.Semicolon (c.args.depth - 1) _ c.in_ok-value.value.rest.now _
    (λ y e p. rw (e, c.in_ok-tree.ensures) (assign_read c.args.depth _ _ _ h c.requires.first (gets_seq c.in_ok-target.ensures (gets_seq c.in_ok-timing.ensures (gets_seq c.in_ok-value.ensures p)))))
    (λ e p. fails_by (mark m.Semicolon) (part a_stmt) (c.args.depth - 1) c.args.depth (seen c.in_ok-value.value.rest.now) (seen c.args.tokens.now)
    (λ deep at s. assign_stuck c.args.depth deep _ at h c.requires.first (stuck_second c.in_ok-target.ensures (stuck_second c.in_ok-timing.ensures (stuck_second c.in_ok-value.ensures s)))) e p)
    c.ended.ensures.tree (c.ended.ensures.mark (c.args.depth - 1))
