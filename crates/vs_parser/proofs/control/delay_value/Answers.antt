use Rattle.std.proofs.Common.{refl}
use Rattle.std.proofs.lemmas.Result.{err_from_is_err_and}
use Rattle.vs_syntax.specs.vs_lexer.specs.declared.token.Mark.TheVariants as m
use Rattle.vs_syntax.specs.Grammar.{part, mark, name, delay, an_expr}
use Rattle.vs_syntax.specs.Reading.{stuck_here, stuck_first, stuck_second}
use Rattle.vs_syntax.specs.Views.{delay_tree}
use Rattle.vs_syntax.proofs.Gets.{gets_seq}
use Rattle.vs_parse_expressions.specs.Answers.{seen, ReadsTree}
use Rattle.vs_parse_expressions.proofs.Exits.{fails_by}
use Rattle.vs_parse_expressions.proofs.Parts.{ended_as}
use Rattle.vs_parser.proofs.Controls.{delay_of, delay_name_stuck, delay_name_read, delay_group_stuck, delay_group_read}
use Rattle.vs_parser.proofs.control.delay_value.Goals as goal

pub returns-in_default : goal.returns-in_default
returns-in_default c = stuck_here refl c.in_default.ensures

pub returns-in-Number : goal.returns-in-Number
returns-in-Number c = c.delay_number.ensures c.args.depth

pub returns-in_err-name-in-Name : goal.returns-in_err-name-in-Name
returns-in_err-name-in-Name c =
    let p = err_from_is_err_and c.from_residual.result c.from_residual.ensures.1 in
    rw (p.1, p.2) (fails_by (name) (delay) c.args.depth c.args.depth (seen c.args.tokens.now) (seen c.args.tokens.now)
    (λ deep at s. delay_name_stuck c.args.depth deep _ at (delay_of _ _ _ _ c.in-Name.is c.in-Some.ensures) s)
    c.in_err-name-in-Name.field-0.0 (c.in_err-name-in-Name.ensures c.args.depth))

pub returns-in_ok-name-in-Name : goal.returns-in_ok-name-in-Name
returns-in_ok-name-in-Name c = delay_name_read c.args.depth _ _ _ (delay_of _ _ _ _ c.in-Name.is c.in-Some.ensures) (c.in_ok-name-in-Name.ensures c.args.depth)

pub returns-in_err-inner-in-Open : goal.returns-in_err-inner-in-Open
returns-in_err-inner-in-Open c =
    let p = err_from_is_err_and c.from_residual-in_err-inner-in-Open.result c.from_residual-in_err-inner-in-Open.ensures.1 in
    rw (p.1, p.2) (fails_by (part an_expr) (delay) c.args.depth c.args.depth (seen c.in-Some.after.now) (seen c.args.tokens.now)
    (λ deep at s. delay_group_stuck c.args.depth deep _ _ at (delay_of _ _ _ _ c.in-Open.is c.in-Some.ensures) (stuck_first s))
    c.in_err-inner-in-Open.field-0.0 c.in_err-inner-in-Open.ensures)

pub returns-in_ok-boxed-in-Open : goal.returns-in_ok-boxed-in-Open
returns-in_ok-boxed-in-Open c =
    let opens = delay_of _ _ _ _ c.in-Open.is c.in-Some.ensures in
    ended_as (λ r. ReadsTree delay c.args.depth c.args.tokens.now delay_tree r) m.Close c.args.depth _ c.in_ok-inner-in-Open.inner.rest.now _
    (λ y e p. rw (e, c.in_ok-boxed-in-Open.ensures.ok) (delay_group_read c.args.depth _ _ _ _ opens (gets_seq c.in_ok-inner-in-Open.ensures p)))
    (λ e p. fails_by (mark m.Close) delay c.args.depth c.args.depth (seen c.in_ok-inner-in-Open.inner.rest.now) (seen c.args.tokens.now) (λ deep at s. delay_group_stuck c.args.depth deep _ _ at opens (stuck_second c.in_ok-inner-in-Open.ensures s)) e p)
    c.ended.ensures.tree (c.ended.ensures.mark c.args.depth)
