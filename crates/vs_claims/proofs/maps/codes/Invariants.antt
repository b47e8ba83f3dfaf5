use Rattle.std.proofs.Common.{◌≡◌, take}
use Rattle.vs_claims.specs.Facts.{bodies}
use Rattle.vs_claims.proofs.maps.codes.Given as goal

abbrev pub invariant-loop-p : goal.invariant-loop-p
invariant-loop-p l = l.codes.items ≡ bodies (take l.p-index l.p-items)
