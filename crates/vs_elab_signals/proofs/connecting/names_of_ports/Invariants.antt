use Rattle.std.proofs.Common.{◌≡◌, ◌++◌, map, drop}
use Rattle.vs_scopes.specs.Ports.{port_names}
use Rattle.vs_scopes.specs.scopes_passes.Answers.{borrowed}
use Rattle.vs_scopes.specs.scopes_passes.Parts.{read_port}
use Rattle.vs_elab_signals.proofs.connecting.names_of_ports.Given as goal

abbrev pub invariant-loop-port : goal.invariant-loop-port
invariant-loop-port l = borrowed l.names.items ++ port_names (map read_port (drop l.port-index l.ports)) ≡ port_names (map read_port l.ports)
