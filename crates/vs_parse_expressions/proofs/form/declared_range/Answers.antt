use Rattle.std.proofs.Common.{refl}
use Rattle.std.proofs.lemmas.Result.{err_from_is_err_and}
use Rattle.vs_syntax.specs.vs_lexer.specs.declared.token.Mark.TheVariants as m
use Rattle.vs_syntax.specs.Symbols.{a_mark, the_mark}
use Rattle.vs_syntax.specs.Grammar.{nothing, ◌·◌, ◌or◌, part, mark, range, an_expr}
use Rattle.vs_syntax.specs.Reading.{stuck_first, stuck_second}
use Rattle.vs_syntax.proofs.Gets.{gets_seq}
use Rattle.vs_syntax.specs.Views.{range_tree}
use Rattle.vs_parse_expressions.specs.Answers.{seen, ReadsTree}
use Rattle.vs_parse_expressions.proofs.Exits.{fails_by}
use Rattle.vs_parse_expressions.proofs.Parts.{ended_as}
use Rattle.vs_parse_expressions.proofs.Forms.{absent, present_stuck, present_read}
use Rattle.vs_parse_expressions.proofs.form.declared_range.Goals as goal

pub returns-in_default : goal.returns-in_default
returns-in_default c = absent (the_mark m.OpenBracket) (part an_expr · mark m.Colon · part an_expr · mark m.CloseBracket) c.args.depth _ c.in_default.ensures

pub returns-in_err-left : goal.returns-in_err-left
returns-in_err-left c =
    let p = err_from_is_err_and c.from_residual.result c.from_residual.ensures.1 in
    rw (p.1, p.2) (fails_by (part an_expr) (range or nothing) c.args.depth c.args.depth (seen c.in-Some.after.now) (seen c.args.tokens.now)
    (λ deep at s. present_stuck (a_mark m.OpenBracket) (part an_expr · mark m.Colon · part an_expr · mark m.CloseBracket) c.args.depth deep _ _ at refl c.in-Some.ensures (stuck_first s))
    c.in_err-left.field-0.0 c.in_err-left.ensures)

pub returns-in_err-middle : goal.returns-in_err-middle
returns-in_err-middle c =
    let p = err_from_is_err_and c.from_residual-in_err-middle.result c.from_residual-in_err-middle.ensures.1 in
    rw (p.1, p.2) (fails_by (mark m.Colon) (range or nothing) c.args.depth c.args.depth (seen c.in_ok-left.left.rest.now) (seen c.args.tokens.now)
    (λ deep at s. present_stuck (a_mark m.OpenBracket) (part an_expr · mark m.Colon · part an_expr · mark m.CloseBracket) c.args.depth deep _ _ at refl c.in-Some.ensures (stuck_second c.in_ok-left.ensures (stuck_first s)))
    c.in_err-middle.field-0.0 (c.in_err-middle.ensures c.args.depth))

pub returns-in_err-right : goal.returns-in_err-right
returns-in_err-right c =
    let p = err_from_is_err_and c.from_residual-in_err-right.result c.from_residual-in_err-right.ensures.1 in
    rw (p.1, p.2) (fails_by (part an_expr) (range or nothing) c.args.depth c.args.depth (seen c.in_ok-middle.middle.now) (seen c.args.tokens.now)
    (λ deep at s. present_stuck (a_mark m.OpenBracket) (part an_expr · mark m.Colon · part an_expr · mark m.CloseBracket) c.args.depth deep _ _ at refl c.in-Some.ensures (stuck_second c.in_ok-left.ensures (stuck_second (c.in_ok-middle.ensures c.args.depth) (stuck_first s))))
    c.in_err-right.field-0.0 c.in_err-right.ensures)

pub returns : goal.returns
returns c =
    ended_as (λ r. ReadsTree (range or nothing) c.args.depth c.args.tokens.now range_tree r) m.CloseBracket c.args.depth _ c.in_ok-right.right.rest.now _
    (λ y e p. rw e (present_read (a_mark m.OpenBracket) (part an_expr · mark m.Colon · part an_expr · mark m.CloseBracket) c.args.depth _ _ _ _ c.in-Some.ensures
    (gets_seq c.in_ok-left.ensures (gets_seq (c.in_ok-middle.ensures c.args.depth) (gets_seq c.in_ok-right.ensures p)))))
    (λ e p. fails_by (mark m.CloseBracket) (range or nothing) c.args.depth c.args.depth (seen c.in_ok-right.right.rest.now) (seen c.args.tokens.now)
    (λ deep at s. present_stuck (a_mark m.OpenBracket) (part an_expr · mark m.Colon · part an_expr · mark m.CloseBracket) c.args.depth deep _ _ at refl c.in-Some.ensures (stuck_second c.in_ok-left.ensures (stuck_second (c.in_ok-middle.ensures c.args.depth) (stuck_second c.in_ok-right.ensures s)))) e p)
    c.ended.ensures.tree (c.ended.ensures.mark c.args.depth)
