use Rattle.std.proofs.Common.{◌≡◌, take}
use Rattle.vs_claims.specs.facts_passes.Kept.{edge_signals}
use Rattle.vs_claims.specs.Places.{texts}
use Rattle.vs_claims.proofs.names.edge_signals.Given as goal

abbrev pub invariant-loop-e : goal.invariant-loop-e
invariant-loop-e l = texts l.names.items ≡ edge_signals (take l.e-index l.edges)
