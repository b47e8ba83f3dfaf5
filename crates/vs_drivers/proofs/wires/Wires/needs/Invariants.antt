use Rattle.vs_drivers.proofs.Tables.{NeedsBelow}
use Rattle.vs_drivers.proofs.wires.Wires.needs.Given as goal

abbrev pub invariant-loop-n : goal.invariant-loop-n
invariant-loop-n l = NeedsBelow l.self l.n l.table.items
