use Rattle.vs_drivers.proofs.CopyLemmas.{SoFar}
use Rattle.vs_drivers.proofs.copies.sources_of.Given as goal

abbrev pub invariant-loop-v : goal.invariant-loop-v
invariant-loop-v l = SoFar l.design l.inverse l.v l.sources.items
