use Rattle.vs_parse_expressions.proofs.ListsTrees.{tree_While, tree_Repeat}
use Rattle.vs_parser.proofs.statement.looped.Goals as goal

pub returns-then-counted : goal.returns-then-counted
returns-then-counted c = rw c.if-counted.true (tree_Repeat _ _)

pub returns-else-counted : goal.returns-else-counted
returns-else-counted c = rw c.if-counted.false (tree_While _ _)
