use Rattle.std.proofs.Common.{◌+◌, ◌-◌, ◌*◌, length, map}
use Rattle.vs_syntax.specs.vs_lexer.specs.declared.token.Mark.TheVariants as m
use Rattle.vs_syntax.specs.Grammar.{a_target}
use Rattle.vs_syntax.specs.Views.{left_tree}
use Rattle.vs_parse_expressions.specs.Answers.{seen}
use Rattle.vs_parse_expressions.proofs.Lists.{another, comma_by}
use Rattle.vs_parse_expressions.proofs.Rows.{Along}
use Rattle.vs_parse_expressions.proofs.left_side.+left.Given as goal

abbrev pub decreases-left : goal.decreases-left
decreases-left l = 3 * l.depth + 1

abbrev pub decreases-places : goal.decreases-places
decreases-places l = 3 * l.depth

abbrev pub invariant-places-loop-next : goal.invariant-places-loop-next
invariant-places-loop-next l = record {
  along : Along (another m.Comma a_target) (l.depth - 1) (seen l.first.rest.now) (seen l.rest) (map (comma_by left_tree) l.others.items);
}

abbrev pub decreases-places-loop-next : goal.decreases-places-loop-next
decreases-places-loop-next l = length (seen l.rest)
