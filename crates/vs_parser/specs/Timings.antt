-- The signs of assignments.
use Rattle.vs_syntax.specs.vs_lexer.specs.declared.token.Mark.TheVariants as m
use Rattle.vs_syntax.specs.Symbols.{a_mark}
use Rattle.vs_syntax.specs.Grammar.{Grammar, ◌·◌, ◌or◌, mark, late}
use Rattle.vs_syntax.specs.Derivation.{Tree, leaf}
use Rattle.vs_syntax.specs.Views.{later_tree}
use Rattle.vs_parser.specs.declared.assignment.Timing.{Timing}
use Rattle.vs_parser.specs.declared.assignment.Timing.TheVariants as t

-- the sign of an assignment as a statement, with its delay (clauses 9.2.1 and 9.2.2)
abbrev pub timing : Grammar
timing = mark m.Assign or mark m.LessEqual · late

abbrev pub timing_tree : Timing → Tree
timing_tree t.Blocking = leaf (a_mark m.Assign)
timing_tree (t.Nonblocking v) = later_tree v
