use Rattle.std.proofs.Common.{length, map}
use Rattle.vs_syntax.specs.Grammar.{local_declaration}
use Rattle.vs_syntax.specs.Views.{local_declaration_tree}
use Rattle.vs_parse_expressions.specs.Answers.{seen}
use Rattle.vs_parse_expressions.proofs.Rows.{Along}
use Rattle.vs_parse_expressions.proofs.local.locals.Given as goal

abbrev pub invariant-loop-word : goal.invariant-loop-word
invariant-loop-word l = record {
  along : Along local_declaration l.depth (seen l.tokens) (seen l.rest) (map local_declaration_tree l.tree.items);
}

abbrev pub decreases-loop-word : goal.decreases-loop-word
decreases-loop-word l = length (seen l.rest)
