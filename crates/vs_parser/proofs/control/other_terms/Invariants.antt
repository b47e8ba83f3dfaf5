use Rattle.std.proofs.Common.{length, map}
use Rattle.vs_syntax.specs.Views.{other_event_tree}
use Rattle.vs_parse_expressions.specs.Answers.{seen}
use Rattle.vs_parse_expressions.proofs.Rows.{Along}
use Rattle.vs_parser.proofs.Controls.{another_term}
use Rattle.vs_parser.proofs.control.other_terms.Given as goal

abbrev pub invariant-loop-separator : goal.invariant-loop-separator
invariant-loop-separator l = record {
  along : Along another_term l.depth (seen l.tokens) (seen l.rest) (map other_event_tree l.tree.items);
}

abbrev pub decreases-loop-separator : goal.decreases-loop-separator
decreases-loop-separator l = length (seen l.rest)
