use Rattle.std.proofs.Common.{◌+◌, ◌*◌, length, map}
use Rattle.vs_syntax.specs.Grammar.{part, a_stmt, a_case_item}
use Rattle.vs_syntax.specs.Views.{stmt_tree}
use Rattle.vs_parse_expressions.specs.Answers.{seen}
use Rattle.vs_parse_expressions.proofs.Rows.{Along}
use Rattle.vs_parse_expressions.specs.Parts.{labelled_stmt_tree}
use Rattle.vs_parser.proofs.statement.+stmt.Given as goal

abbrev pub decreases-stmt : goal.decreases-stmt
decreases-stmt l = 8 * l.depth + 1

abbrev pub decreases-headed : goal.decreases-headed
decreases-headed l = 8 * l.depth

abbrev pub decreases-statement_rest : goal.decreases-statement_rest
decreases-statement_rest l = 8 * l.depth + 5

abbrev pub decreases-boxed : goal.decreases-boxed
decreases-boxed l = 8 * l.depth + 2

abbrev pub decreases-block : goal.decreases-block
decreases-block l = 8 * l.depth + 3

abbrev pub decreases-conditional : goal.decreases-conditional
decreases-conditional l = 8 * l.depth + 4

abbrev pub decreases-case_stmt : goal.decreases-case_stmt
decreases-case_stmt l = 8 * l.depth + 4

abbrev pub decreases-items : goal.decreases-items
decreases-items l = 8 * l.depth + 3

abbrev pub decreases-for_stmt : goal.decreases-for_stmt
decreases-for_stmt l = 8 * l.depth + 4

abbrev pub decreases-loop_stmt : goal.decreases-loop_stmt
decreases-loop_stmt l = 8 * l.depth + 4

abbrev pub decreases-forever_stmt : goal.decreases-forever_stmt
decreases-forever_stmt l = 8 * l.depth + 4

abbrev pub decreases-delayed_stmt : goal.decreases-delayed_stmt
decreases-delayed_stmt l = 8 * l.depth + 4

abbrev pub decreases-event_stmt : goal.decreases-event_stmt
decreases-event_stmt l = 8 * l.depth + 4

abbrev pub invariant-block-loop-head : goal.invariant-block-loop-head
invariant-block-loop-head l = record {
  along : Along (part a_stmt) l.depth (seen l.naming.rest.now) (seen l.rest) (map stmt_tree l.tree.items);
}

abbrev pub decreases-block-loop-head : goal.decreases-block-loop-head
decreases-block-loop-head l = length (seen l.rest)

abbrev pub invariant-items-loop-alloc : goal.invariant-items-loop-alloc
invariant-items-loop-alloc l = record {
  along : Along (part a_case_item) l.depth (seen l.tokens) (seen l.rest) (map labelled_stmt_tree l.tree.items);
}

abbrev pub decreases-items-loop-alloc : goal.decreases-items-loop-alloc
decreases-items-loop-alloc l = length (seen l.rest)
