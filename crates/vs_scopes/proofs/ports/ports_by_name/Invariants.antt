use Rattle.std.proofs.Common.{◌≡◌, ◌++◌, map, drop}
use Rattle.vs_scopes.specs.Reads.{read_piece}
use Rattle.vs_scopes.specs.Ports.{port_by_items}
use Rattle.vs_scopes.specs.scopes_passes.Parts.{read_port}
use Rattle.vs_scopes.proofs.ports.ports_by_name.Given as goal

abbrev pub invariant-loop-port : goal.invariant-loop-port
invariant-loop-port l = map read_port l.ports.items ++ map (port_by_items (map read_piece l.pieces)) (drop l.port-index l.list) ≡ map (port_by_items (map read_piece l.pieces)) l.list
