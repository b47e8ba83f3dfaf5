use Rattle.std.proofs.Common.{◌≡◌, take}
use Rattle.vs_claims.specs.facts_passes.Kept.{edge_roots}
use Rattle.vs_claims.specs.Places.{texts}
use Rattle.vs_claims.proofs.names.edge_roots.Given as goal

abbrev pub invariant-loop-e : goal.invariant-loop-e
invariant-loop-e l = texts l.names.items ≡ edge_roots (take l.e-index l.edges)
