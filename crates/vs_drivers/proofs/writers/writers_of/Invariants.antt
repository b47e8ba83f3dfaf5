use Rattle.vs_drivers.proofs.Tables.{HasBelow}
use Rattle.vs_drivers.proofs.writers.writers_of.Given as goal

abbrev pub invariant-loop-n : goal.invariant-loop-n
invariant-loop-n l = HasBelow l.wires l.n l.table
