use Rattle.vs_parse_expressions.proofs.ListsTrees.{tree_Block, tree_Named}
use Rattle.vs_parser.proofs.statement.named.Goals as goal

pub returns-in-None : goal.returns-in-None
returns-in-None c = rw c.in-None.is (tree_Block _)

pub returns-in-Some : goal.returns-in-Some
returns-in-Some c = rw c.in-Some.is (tree_Named _ _ _)
