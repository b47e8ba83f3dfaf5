use Rattle.std.proofs.lemmas.Result.{err_from_is_err_and}
use Rattle.vs_syntax.specs.vs_lexer.specs.declared.token.Mark.TheVariants as m
use Rattle.vs_syntax.specs.Grammar.{◌·◌, part, mark, assignment, a_target, an_expr}
use Rattle.vs_syntax.specs.Reading.{stuck_first, stuck_second}
use Rattle.vs_syntax.proofs.Gets.{gets_seq}
use Rattle.vs_parse_expressions.specs.Answers.{seen}
use Rattle.vs_parse_expressions.proofs.Exits.{fails_by}
use Rattle.vs_syntax.specs.Derivation.{both}
use Rattle.vs_parse_expressions.proofs.Parts.{beyond_part, beyond_behind, ended_as}
use Rattle.vs_parse_expressions.specs.Parts.{Leads, marked, sides_tree}
use Rattle.vs_parser.proofs.assignment.sides_until.Goals as goal

pub returns-in_err-target : goal.returns-in_err-target
returns-in_err-target c = λ a.
    let p = err_from_is_err_and c.from_residual.result c.from_residual.ensures.1 in
    rw (p.1, p.2) (fails_by (part a_target) (assignment · mark c.args.end · a) c.args.depth c.args.depth (seen c.args.tokens.now) (seen c.args.tokens.now)
    (λ deep at s. stuck_first (stuck_first s))
    c.in_err-target.field-0.0 c.in_err-target.ensures)

pub returns-in_err-after_sign : goal.returns-in_err-after_sign
returns-in_err-after_sign c = λ a.
    let p = err_from_is_err_and c.from_residual-in_err-after_sign.result c.from_residual-in_err-after_sign.ensures.1 in
    rw (p.1, p.2) (fails_by (mark m.Assign) (assignment · mark c.args.end · a) c.args.depth c.args.depth (seen c.in_ok-target.target.rest.now) (seen c.args.tokens.now)
    (λ deep at s. stuck_first (stuck_second c.in_ok-target.ensures (stuck_first s)))
    c.in_err-after_sign.field-0.0 (c.in_err-after_sign.ensures c.args.depth))

pub returns-in_err-value : goal.returns-in_err-value
returns-in_err-value c = λ a.
    let p = err_from_is_err_and c.from_residual-in_err-value.result c.from_residual-in_err-value.ensures.1 in
    rw (p.1, p.2) (fails_by (part an_expr) (assignment · mark c.args.end · a) c.args.depth c.args.depth (seen c.in_ok-after_sign.after_sign.now) (seen c.args.tokens.now)
    (λ deep at s. stuck_first (stuck_second c.in_ok-target.ensures (stuck_second (c.in_ok-after_sign.ensures c.args.depth) s)))
    c.in_err-value.field-0.0 c.in_err-value.ensures)

pub returns : goal.returns
returns c = λ a.
    let sides = gets_seq c.in_ok-target.ensures (gets_seq (c.in_ok-after_sign.ensures c.args.depth) c.in_ok-value.ensures) in
    ended_as (λ r. Leads a (assignment · mark c.args.end · a) (λ x y. both (sides_tree x) (marked c.args.end y)) c.args.depth c.args.tokens.now r) c.args.end c.args.depth _ c.in_ok-value.value.rest.now _
    (λ y e p. rw e (beyond_behind a (mark c.args.end · a) _ _ _ c.args.depth _ _ _ (beyond_part assignment _ _ _ _ _ sides) (beyond_part _ _ _ _ _ _ p)))
    (λ e p. fails_by (mark c.args.end) (assignment · mark c.args.end · a) c.args.depth c.args.depth (seen c.in_ok-value.value.rest.now) (seen c.args.tokens.now)
    (λ deep at s. stuck_second sides (stuck_first s)) e p)
    c.ended.ensures.tree (c.ended.ensures.mark c.args.depth)
