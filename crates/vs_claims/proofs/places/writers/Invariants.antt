use Rattle.std.proofs.Common.{◌≡◌, map, take}
use Rattle.vs_claims.specs.facts_passes.Kept.{writers_of}
use Rattle.vs_claims.proofs.places.writers.Given as goal

abbrev pub invariant-loop-e : goal.invariant-loop-e
invariant-loop-e l = l.all.items ≡ map (writers_of l.processes) (take l.e-index l.entries)
