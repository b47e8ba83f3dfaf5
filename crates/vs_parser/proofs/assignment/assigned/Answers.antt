use Rattle.std.proofs.Common.{sym}
use Rattle.vs_parse_expressions.proofs.ListsTrees.{tree_Assign, tree_Later}
use Rattle.vs_parser.proofs.assignment.assigned.Goals as goal

pub returns-in-Blocking : goal.returns-in-Blocking
returns-in-Blocking c = rw (c.in-Blocking.is, sym c.in_ok-place.ensures.ok) (tree_Assign _ _)

pub returns-in_ok-new-in-Nonblocking : goal.returns-in_ok-new-in-Nonblocking
returns-in_ok-new-in-Nonblocking c =
    rw (c.in-Nonblocking.is, sym c.in_ok-place.ensures.ok, sym c.in_ok-new-in-Nonblocking.ensures.ok) (tree_Later _ _ _)
