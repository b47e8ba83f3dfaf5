use Rattle.std.proofs.Common.{◌≡◌, take}
use Rattle.vs_claims.specs.passes.Placed.{placed_from}
use Rattle.vs_claims.proofs.index.with_places.Given as goal

abbrev pub invariant-loop-i : goal.invariant-loop-i
invariant-loop-i l = l.found.items ≡ placed_from 0 (take l.i l.names)
