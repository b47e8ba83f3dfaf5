-- What stands behind system tasks (clause A.6.9).
use Rattle.vs_syntax.specs.vs_lexer.specs.declared.token.Mark.TheVariants as m
use Rattle.vs_syntax.specs.Symbols.{any_text}
use Rattle.vs_syntax.specs.Grammar.{Grammar, nothing, ◌·◌, ◌or◌, token, part, mark, number, an_argument, a_dump_argument}
use Rattle.vs_parse_expressions.specs.Lists.{comma_tail}

-- a text and what it prints, or nothing
abbrev pub text_and_arguments : Grammar
text_and_arguments = token any_text · comma_tail (part an_argument) or nothing

-- the same, and the parenthesis behind it
abbrev pub printed : Grammar
printed = text_and_arguments · mark m.Close

-- a number and the parenthesis behind it
abbrev pub counted : Grammar
counted = number · mark m.Close

-- the arguments of `$dumpfile` or `$dumpvars`, and the parenthesis behind them
abbrev pub dumped : Grammar
dumped = part a_dump_argument · comma_tail (part a_dump_argument) · mark m.Close
