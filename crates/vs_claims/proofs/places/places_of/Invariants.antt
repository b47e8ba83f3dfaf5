use Rattle.std.proofs.Common.{◌≡◌, map, take}
use Rattle.vs_claims.specs.Places.{place_in, texts}
use Rattle.vs_claims.proofs.places.places_of.Given as goal

abbrev pub invariant-loop-name : goal.invariant-loop-name
invariant-loop-name l = l.places.items ≡ map (place_in l.list) (texts (take l.name-index l.name-items))
