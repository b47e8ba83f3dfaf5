use Rattle.vs_syntax.specs.vs_lexer.specs.declared.token.Mark.TheVariants as m
use Rattle.vs_parse_expressions.specs.Answers.{seen}
use Rattle.vs_parse_expressions.proofs.Selects.{no_part}
use Rattle.vs_parse_expressions.proofs.token.part_select_at.Goals as goal

pub returns-in_err-found : goal.returns-in_err-found
returns-in_err-found c = rw (c.from_residual.ensures) (no_part (seen c.args.tokens.now) (c.in_err-found.ensures m.Colon) (c.in_err-found.ensures m.PlusColon) (c.in_err-found.ensures m.MinusColon))
