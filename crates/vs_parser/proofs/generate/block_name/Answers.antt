use Rattle.std.proofs.Common.{refl}
use Rattle.std.proofs.lemmas.Result.{err_from_is_err_and}
use Rattle.vs_syntax.specs.vs_lexer.specs.declared.token.Mark.TheVariants as m
use Rattle.vs_syntax.specs.Symbols.{a_mark, the_mark}
use Rattle.vs_syntax.specs.Grammar.{name, block_name}
use Rattle.vs_parser.specs.vs_parse_expressions.specs.Answers.{seen}
use Rattle.vs_parser.specs.vs_parse_expressions.proofs.Exits.{fails_by}
use Rattle.vs_parser.specs.vs_parse_expressions.proofs.Forms.{absent, present_stuck, present_read}
use Rattle.vs_parser.proofs.generate.block_name.Goals as goal

pub returns-in_default : goal.returns-in_default
returns-in_default c = λ depth. absent (the_mark m.Colon) name depth _ c.in_default.ensures

pub returns-in_err-name : goal.returns-in_err-name
returns-in_err-name c = λ depth.
    let p = err_from_is_err_and c.from_residual.result c.from_residual.ensures.1 in
    rw (p.1, p.2) (fails_by name block_name depth depth (seen c.in-Some.after.now) (seen c.args.tokens.now)
    (λ deep at s. present_stuck (a_mark m.Colon) name depth deep _ _ at refl c.in-Some.ensures s)
    c.in_err-name.field-0.0 (c.in_err-name.ensures depth))

pub returns : goal.returns
returns c = λ depth. present_read (a_mark m.Colon) name depth _ _ _ _ c.in-Some.ensures (c.in_ok-name.ensures depth)
