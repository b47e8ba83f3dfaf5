use Rattle.std.proofs.Common.{arith}
use Rattle.vs_elab_statements.proofs.assignments.source.Goals as goal

pub invariant_of-context : goal.invariant_of-context
invariant_of-context c = record { sized = (omega (arith, c.max.ensures, c.in_ok-right.right.sized.0), omega (arith, c.max.ensures, c.requires, c.in_ok-right.right.sized.1)) }
