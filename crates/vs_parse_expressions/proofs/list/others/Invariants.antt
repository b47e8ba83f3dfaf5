use Rattle.std.proofs.Common.{length}
use Rattle.vs_parse_expressions.specs.Answers.{seen}
use Rattle.vs_parse_expressions.proofs.ListsLists.{Adding}
use Rattle.vs_parse_expressions.proofs.list.others.Given as goal

abbrev pub invariant-loop-after : goal.invariant-loop-after
invariant-loop-after g l = record {
  adding : Adding g.T.Element.grammar l.depth g.T.Element.tree_of (seen l.tokens) (seen l.rest) l.fn.tree.items l.tree.items;
}

abbrev pub decreases-loop-after : goal.decreases-loop-after
decreases-loop-after g l = length (seen l.rest)
