use Rattle.std.proofs.Common.{refl}
use Rattle.std.proofs.lemmas.Result.{err_from_is_err_and}
use Rattle.vs_syntax.specs.vs_lexer.specs.declared.token.Mark.TheVariants as m
use Rattle.vs_syntax.specs.Symbols.{a_mark, the_mark}
use Rattle.vs_syntax.specs.Grammar.{mark, delay}
use Rattle.vs_syntax.specs.Reading.{stuck_first, stuck_second}
use Rattle.vs_parse_expressions.specs.Answers.{seen}
use Rattle.vs_parse_expressions.proofs.Exits.{fails_by}
use Rattle.vs_parse_expressions.proofs.Forms.{absent, present_stuck, present_read}
use Rattle.vs_parser.specs.Timings.{timing}
use Rattle.vs_parser.proofs.Timings.{at_once, later_stuck, later_read}
use Rattle.vs_parser.proofs.assignment.sign.Goals as goal

pub returns-in-Some : goal.returns-in-Some
returns-in-Some c = at_once c.args.depth _ _ c.in-Some.ensures

pub returns-in_err-after : goal.returns-in_err-after
returns-in_err-after c =
    let p = err_from_is_err_and c.from_residual.result c.from_residual.ensures.1 in
    rw (p.1, p.2) (fails_by (mark m.LessEqual) timing c.args.depth c.args.depth (seen c.args.tokens.now) (seen c.args.tokens.now)
    (λ deep at s. later_stuck c.args.depth deep _ at c.in_default.ensures (stuck_first s))
    c.in_err-after.field-0.0 (c.in_err-after.ensures c.args.depth))

pub returns-in_default-mark_at : goal.returns-in_default-mark_at
returns-in_default-mark_at c = later_read c.args.depth _ _ _ _ _ c.in_default.ensures (c.in_ok-after.ensures c.args.depth) (absent (the_mark m.Hash) delay c.args.depth _ c.in_default-mark_at.ensures)

pub returns-in_err-delay : goal.returns-in_err-delay
returns-in_err-delay c =
    let p = err_from_is_err_and c.from_residual-in_err-delay.result c.from_residual-in_err-delay.ensures.1 in
    rw (p.1, p.2) (fails_by delay timing c.args.depth c.args.depth (seen c.in-Some-mark_at.behind.now) (seen c.args.tokens.now)
    (λ deep at s. later_stuck c.args.depth deep _ at c.in_default.ensures (stuck_second (c.in_ok-after.ensures c.args.depth) (present_stuck (a_mark m.Hash) delay c.args.depth deep _ _ at refl c.in-Some-mark_at.ensures s)))
    c.in_err-delay.field-0.0 c.in_err-delay.ensures)

pub returns : goal.returns
returns c = later_read c.args.depth _ _ _ _ _ c.in_default.ensures (c.in_ok-after.ensures c.args.depth) (present_read (a_mark m.Hash) delay c.args.depth _ _ _ _ c.in-Some-mark_at.ensures c.in_ok-delay.ensures)
