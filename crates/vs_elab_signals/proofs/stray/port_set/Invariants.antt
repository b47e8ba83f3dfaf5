use Rattle.std.proofs.Common.{map, take}
use Rattle.vs_scopes.specs.Ports.{port_names}
use Rattle.vs_scopes.specs.scopes_passes.Parts.{read_port, IsSet}
use Rattle.vs_elab_signals.proofs.stray.port_set.Given as goal

abbrev pub invariant-loop-port : goal.invariant-loop-port
invariant-loop-port l = IsSet (port_names (map read_port (take l.port-index l.ports))) l.set
