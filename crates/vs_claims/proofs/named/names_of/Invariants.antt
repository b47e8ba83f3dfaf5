use Rattle.std.proofs.Common.{◌≡◌, map, take}
use Rattle.vs_claims.specs.Places.{texts}
use Rattle.vs_claims.proofs.named.names_of.Given as goal

abbrev pub invariant-loop-thing : goal.invariant-loop-thing
invariant-loop-thing g l = texts l.names.items ≡ map g.T.Named.name (take l.thing-index l.things)
