-- How the parts in the parentheses of a `for` statement follow one another.
use Rattle.vs_syntax.specs.vs_lexer.specs.declared.token.Mark.TheVariants as m
use Rattle.vs_syntax.specs.Grammar.{Grammar, ◌·◌, part, mark, assignment, a_stmt, an_expr}

-- from the second assignment on
abbrev pub from_step : Grammar
from_step = assignment · mark m.Close · part a_stmt

-- from the condition on
abbrev pub from_test : Grammar
from_test = part an_expr · mark m.Semicolon · from_step

-- from the first assignment on
abbrev pub from_first : Grammar
from_first = assignment · mark m.Semicolon · from_test
