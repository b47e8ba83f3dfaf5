use Rattle.std.proofs.Common.{◌≡◌, ◌++◌, map, take}
use Rattle.std.specs.List.{flat_map}
use Rattle.vs_claims.specs.vs_rules.specs.Certificates.{edge_claim}
use Rattle.vs_claims.specs.vs_rules.specs.Claims.{names_of_edge}
use Rattle.vs_claims.specs.Places.{texts}
use Rattle.vs_claims.proofs.certificate_names.push_edges.Given as goal

abbrev pub invariant-loop-e : goal.invariant-loop-e
invariant-loop-e l = texts l.names.items ≡ texts l.fn.names.items ++ flat_map names_of_edge (map edge_claim (take l.e-index l.edges))
