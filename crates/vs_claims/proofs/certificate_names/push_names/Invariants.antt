use Rattle.std.proofs.Common.{◌≡◌, ◌++◌, take}
use Rattle.vs_claims.specs.Places.{texts}
use Rattle.vs_claims.proofs.certificate_names.push_names.Given as goal

abbrev pub invariant-loop-name : goal.invariant-loop-name
invariant-loop-name l = texts l.names.items ≡ texts l.fn.names.items ++ texts (take l.name-index l.name-items)
