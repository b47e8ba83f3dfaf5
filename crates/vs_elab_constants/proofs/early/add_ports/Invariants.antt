use Rattle.std.proofs.Common.{None, map, take}
use Rattle.vs_scopes.specs.Declarations.{declared_by_port, signal_names}
use Rattle.vs_scopes.specs.scopes_passes.Parts.{read_port}
use Rattle.vs_scopes.specs.scopes_passes.Declared.{AddsNames}
use Rattle.vs_elab_constants.specs.passes.Early.{bound_by}
use Rattle.vs_elab_constants.proofs.early.add_ports.Given as goal

abbrev pub invariant-loop-port : goal.invariant-loop-port
invariant-loop-port l = AddsNames l.fn.names l.names (signal_names (bound_by l.signals) (map (declared_by_port (λ n. None)) (map read_port (take l.port-index l.ports))))
