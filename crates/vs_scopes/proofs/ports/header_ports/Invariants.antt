use Rattle.std.proofs.Common.{◌≡◌, ◌++◌, None, map, drop}
use Rattle.vs_scopes.specs.Ports.{ports_from}
use Rattle.vs_scopes.specs.scopes_passes.Parts.{read_end, read_port}
use Rattle.vs_scopes.proofs.ports.header_ports.Given as goal

abbrev pub invariant-loop-port : goal.invariant-loop-port
invariant-loop-port l = map read_port l.ports.items ++ ports_from (read_end l.before) (drop l.port-index l.list) ≡ ports_from None l.list
