use Rattle.std.proofs.Common.{◌+◌, ◌*◌, length, map}
use Rattle.vs_syntax.specs.Grammar.{part, an_item}
use Rattle.vs_syntax.specs.Views.{module_item_tree}
use Rattle.vs_parser.specs.vs_parse_expressions.specs.Answers.{seen}
use Rattle.vs_parser.specs.vs_parse_expressions.proofs.Rows.{Along}
use Rattle.vs_parser.proofs.generate.+item.Given as goal

abbrev pub decreases-item : goal.decreases-item
decreases-item l = 16 * l.depth

abbrev pub decreases-items : goal.decreases-items
decreases-items l = 16 * l.depth + 1

abbrev pub decreases-region : goal.decreases-region
decreases-region l = 16 * l.depth + 7

abbrev pub decreases-generate_for : goal.decreases-generate_for
decreases-generate_for l = 16 * l.depth + 7

abbrev pub decreases-generate_if : goal.decreases-generate_if
decreases-generate_if l = 16 * l.depth + 7

abbrev pub decreases-alternative : goal.decreases-alternative
decreases-alternative l = 16 * l.depth + 6

abbrev pub decreases-boxed : goal.decreases-boxed
decreases-boxed l = 16 * l.depth + 5

abbrev pub decreases-generated : goal.decreases-generated
decreases-generated l = 16 * l.depth + 4

abbrev pub decreases-block : goal.decreases-block
decreases-block l = 16 * l.depth + 2

abbrev pub invariant-items-loop-head : goal.invariant-items-loop-head
invariant-items-loop-head l = record {
  along : Along (part an_item) l.depth (seen l.tokens) (seen l.rest) (map module_item_tree l.tree.items);
}

abbrev pub decreases-items-loop-head : goal.decreases-items-loop-head
decreases-items-loop-head l = length (seen l.rest)
