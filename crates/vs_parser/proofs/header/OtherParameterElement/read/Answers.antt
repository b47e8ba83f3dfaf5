use Rattle.vs_syntax.specs.vs_lexer.specs.declared.token.Word.TheVariants as w
use Rattle.vs_syntax.specs.Symbols.{the_word}
use Rattle.vs_syntax.specs.Grammar.{◌·◌, ◌or◌, nothing, part, word, parameter_form, a_constant, a_header_parameter}
use Rattle.vs_syntax.specs.Derivation.{empty}
use Rattle.vs_syntax.specs.Views.{header_parameter_tree}
use Rattle.vs_parse_expressions.specs.Answers.{seen}
use Rattle.vs_parse_expressions.proofs.Forms.{absent}
use Rattle.vs_parse_expressions.proofs.Parts.{beyond_part}
use Rattle.vs_parser.proofs.Declarations.{within_beyond, part_answers}
use Rattle.vs_parser.proofs.header.OtherParameterElement.read.Goals as goal

pub returns-in-Some : goal.returns-in-Some
returns-in-Some c = c.parameter_with_word.ensures.other

pub returns-in-None : goal.returns-in-None
returns-in-None c =
    part_answers a_header_parameter header_parameter_tree c.args.depth c.args.tokens.now _
    (within_beyond (part a_constant) ((word w.Parameter · parameter_form or nothing) · part a_constant) header_parameter_tree _ c.args.depth c.args.tokens.now c.args.tokens.now _
    (beyond_part (word w.Parameter · parameter_form or nothing) (part a_constant) c.args.depth (seen c.args.tokens.now) (seen c.args.tokens.now) empty
    (absent (the_word w.Parameter) parameter_form c.args.depth (seen c.args.tokens.now) c.in-None.ensures))
    c.parameter.ensures)
