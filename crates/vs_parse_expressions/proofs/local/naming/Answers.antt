use Rattle.std.proofs.Common.{refl}
use Rattle.vs_syntax.specs.vs_lexer.specs.declared.token.Mark.TheVariants as m
use Rattle.vs_syntax.specs.Symbols.{the_mark}
use Rattle.vs_parse_expressions.specs.Blocks.{naming_tree}
use Rattle.vs_parse_expressions.proofs.Forms.{absent}
use Rattle.vs_parse_expressions.proofs.Parts.{marked_answers}
use Rattle.vs_parse_expressions.proofs.Blocks.{name_and_locals}
use Rattle.vs_parse_expressions.proofs.local.naming.Goals as goal

pub returns-in_default : goal.returns-in_default
returns-in_default c = absent (the_mark m.Colon) name_and_locals c.args.depth _ c.in_default.ensures

pub returns : goal.returns
returns c = marked_answers naming_tree m.Colon name_and_locals c.args.depth _ _ _ refl c.in-Some.ensures c.named.ensures
