use Rattle.std.proofs.Common.{length}
use Rattle.vs_parser.specs.vs_parse_expressions.specs.Answers.{seen}
use Rattle.vs_parser.specs.vs_parse_expressions.proofs.Rows.{Along}
use Rattle.vs_parser.specs.ParserHeads.{module_or_directive}
use Rattle.vs_parser.proofs.Sources.{source_trees}
use Rattle.vs_parser.proofs.source.source.Given as goal

abbrev pub invariant-loop-head : goal.invariant-loop-head
invariant-loop-head l = record {
  along : Along module_or_directive l.depth (seen l.tokens) (seen l.rest) (source_trees l.modules.items l.directives.items);
}

abbrev pub decreases-loop-head : goal.decreases-loop-head
decreases-loop-head l = length (seen l.rest)
