use Rattle.vs_drivers.proofs.ConeLemmas.{AreSet}
use Rattle.vs_drivers.proofs.cones.marked.Given as goal

abbrev pub invariant-loop-u : goal.invariant-loop-u
invariant-loop-u l = AreSet l.marks l.u l.all.items
