use Rattle.std.proofs.Common.{length}
use Rattle.vs_parse_expressions.specs.Answers.{seen}
use Rattle.vs_parser.proofs.PortLemmas.{Joined}
use Rattle.vs_parser.proofs.port.others.Given as goal

abbrev pub invariant-loop-after : goal.invariant-loop-after
invariant-loop-after l = record {
  joined : Joined l.fn.said l.said l.depth (seen l.fn.first.rest.now) (seen l.rest) l.fn.first.tree l.tree.items;
}

abbrev pub decreases-loop-after : goal.decreases-loop-after
decreases-loop-after l = length (seen l.rest)
