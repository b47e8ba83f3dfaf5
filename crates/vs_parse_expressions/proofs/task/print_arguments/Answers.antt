use Rattle.std.proofs.Common.{refl}
use Rattle.vs_syntax.specs.vs_lexer.specs.declared.token.Mark.TheVariants as m
use Rattle.vs_syntax.specs.Symbols.{the_mark}
use Rattle.vs_syntax.specs.Views.{print_tree}
use Rattle.vs_parse_expressions.specs.Tasks.{printed}
use Rattle.vs_parse_expressions.proofs.Forms.{absent}
use Rattle.vs_parse_expressions.proofs.Parts.{marked_answers}
use Rattle.vs_parse_expressions.proofs.task.print_arguments.Goals as goal

pub returns-in_default : goal.returns-in_default
returns-in_default c = absent (the_mark m.Open) printed c.args.depth _ c.in_default.ensures

pub returns : goal.returns
returns c = marked_answers print_tree m.Open printed c.args.depth _ _ _ refl c.in-Some.ensures c.print_list.ensures
