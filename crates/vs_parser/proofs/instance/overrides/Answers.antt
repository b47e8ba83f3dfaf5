use Rattle.std.proofs.Common.{refl}
use Rattle.std.proofs.lemmas.Result.{err_from_is_err_and}
use Rattle.vs_syntax.specs.vs_lexer.specs.declared.token.Mark.TheVariants as m
use Rattle.vs_syntax.specs.Symbols.{a_mark, the_mark}
use Rattle.vs_syntax.specs.Grammar.{◌·◌, ◌or◌, nothing, mark}
use Rattle.vs_parse_expressions.specs.Answers.{seen}
use Rattle.vs_parse_expressions.proofs.Exits.{fails_by}
use Rattle.vs_parse_expressions.proofs.Forms.{absent, present_stuck, present_read}
use Rattle.vs_parser.proofs.InstanceLemmas.{within}
use Rattle.vs_parser.proofs.instance.overrides.Goals as goal

pub returns-in_default : goal.returns-in_default
returns-in_default c = absent (the_mark m.Hash) within c.args.depth _ c.in_default.ensures

pub returns-in_err-values : goal.returns-in_err-values
returns-in_err-values c =
    let p = err_from_is_err_and c.from_residual.result c.from_residual.ensures.1 in
    rw (p.1, p.2) (fails_by within (mark m.Hash · within or nothing) c.args.depth c.args.depth (seen c.in-Some.after.now) (seen c.args.tokens.now)
    (λ deep at s. present_stuck (a_mark m.Hash) within c.args.depth deep _ _ at refl c.in-Some.ensures s)
    c.in_err-values.field-0.0 c.in_err-values.ensures)

pub returns : goal.returns
returns c = present_read (a_mark m.Hash) within c.args.depth _ _ _ _ c.in-Some.ensures c.in_ok-values.ensures
