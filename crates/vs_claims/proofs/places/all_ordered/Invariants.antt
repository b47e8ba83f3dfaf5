use Rattle.std.proofs.Common.{◌≡◌, map, take}
use Rattle.vs_claims.specs.vs_rules.specs.Claims.{Name, place_of}
use Rattle.vs_claims.specs.Places.{texts}
use Rattle.vs_claims.proofs.places.all_ordered.Given as goal

abbrev pub invariant-loop-name : goal.invariant-loop-name
invariant-loop-name l = l.places.items ≡ map (λ (n : Name). place_of n l.order) (texts (take l.name-index l.name-items))
