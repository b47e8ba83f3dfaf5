use Rattle.std.proofs.Common.{◌≡◌, ◌<◌, ◌+◌, ◌-◌, ◌*◌, length, map, max}
use Rattle.vs_syntax.specs.vs_lexer.specs.declared.token.Mark.TheVariants as m
use Rattle.vs_syntax.specs.Grammar.{part, a_level, an_expr}
use Rattle.vs_syntax.specs.Grammar as g
use Rattle.vs_syntax.specs.Derivation.{height}
use Rattle.vs_syntax.specs.Views.{row_of, head_of, arms_of, chosen_tree, expr_tree}
use Rattle.vs_syntax.specs.Reading.{Gets}
use Rattle.vs_parse_expressions.specs.Answers.{seen}
use Rattle.vs_parse_expressions.proofs.Lists.{another}
use Rattle.vs_parse_expressions.proofs.Rows.{Along}
use Rattle.vs_parse_expressions.proofs.Trees.{paired}
use Rattle.vs_parse_expressions.proofs.Expressions.{link_at, link_of, comma_of}
use Rattle.vs_parse_expressions.proofs.expression.+expr.Given as goal

abbrev pub decreases-nested_expr : goal.decreases-nested_expr
decreases-nested_expr l = 8 * l.depth + 3

abbrev pub decreases-choice : goal.decreases-choice
decreases-choice l = 8 * l.depth + 2

abbrev pub decreases-operands : goal.decreases-operands
decreases-operands l = 8 * l.depth + 2

abbrev pub decreases-chain : goal.decreases-chain
decreases-chain l = 8 * l.depth + 1

abbrev pub decreases-operand : goal.decreases-operand
decreases-operand l = 8 * l.depth + 1

abbrev pub decreases-named : goal.decreases-named
decreases-named l = 8 * l.depth

abbrev pub decreases-selects : goal.decreases-selects
decreases-selects l = 8 * l.depth + 6

abbrev pub decreases-chosen : goal.decreases-chosen
decreases-chosen l = 8 * l.depth + 5

abbrev pub decreases-prefixed : goal.decreases-prefixed
decreases-prefixed l = 8 * l.depth

abbrev pub decreases-group : goal.decreases-group
decreases-group l = 8 * l.depth

abbrev pub decreases-cast : goal.decreases-cast
decreases-cast l = 8 * l.depth

abbrev pub decreases-closed : goal.decreases-closed
decreases-closed l = 8 * l.depth + 4

abbrev pub decreases-braces : goal.decreases-braces
decreases-braces l = 8 * l.depth

abbrev pub decreases-others : goal.decreases-others
decreases-others l = 8 * l.depth + 4

abbrev pub invariant-choice-loop-after : goal.invariant-choice-loop-after
invariant-choice-loop-after l = record {
  along : Along g.arm (l.depth - 1) (seen l.fn.first.rest.now) (seen l.rest) (arms_of (map paired l.pairs.items) (expr_tree l.last));
  head : head_of (map paired l.pairs.items) (expr_tree l.last) ≡ expr_tree l.fn.first.tree;
  height : l.height ≡ max (height (expr_tree l.fn.first.tree)) (height (row_of (arms_of (map paired l.pairs.items) (expr_tree l.last))));
  below : l.height < l.depth;
}

abbrev pub decreases-choice-loop-after : goal.decreases-choice-loop-after
decreases-choice-loop-after l = length (seen l.rest)

abbrev pub invariant-operands-loop-level : goal.invariant-operands-loop-level
invariant-operands-loop-level l = record {
  reads : Gets (part (a_level l.level)) l.depth (seen l.tokens) (expr_tree l.read.tree) (seen l.read.rest.now);
  height : l.read.height ≡ height (expr_tree l.read.tree);
}

abbrev pub invariant-chain-loop-operator : goal.invariant-chain-loop-operator
invariant-chain-loop-operator l = record {
  same : l.operand.value ≡ l.fn.first.tree;
  along : Along (link_at l.level) (l.depth - 1) (seen l.fn.first.rest.now) (seen l.rest) (map link_of l.links.items);
  height : l.height ≡ max (height (expr_tree l.fn.first.tree)) (height (row_of (map link_of l.links.items)));
  below : l.height < l.depth;
}

abbrev pub decreases-chain-loop-operator : goal.decreases-chain-loop-operator
decreases-chain-loop-operator l = length (seen l.rest)

abbrev pub invariant-others-loop-after : goal.invariant-others-loop-after
invariant-others-loop-after l = record {
  along : Along (another m.Comma an_expr) l.depth (seen l.tokens) (seen l.rest) (map comma_of l.tree.items);
  height : l.height ≡ height (row_of (map comma_of l.tree.items));
}

abbrev pub decreases-others-loop-after : goal.decreases-others-loop-after
decreases-others-loop-after l = length (seen l.rest)

abbrev pub invariant-selects-loop-after : goal.invariant-selects-loop-after
invariant-selects-loop-after l = record {
  along : Along g.select l.depth (seen l.tokens) (seen l.rest) (map chosen_tree l.tree.items);
  height : l.height ≡ height (row_of (map chosen_tree l.tree.items));
}

abbrev pub decreases-selects-loop-after : goal.decreases-selects-loop-after
decreases-selects-loop-after l = length (seen l.rest)
