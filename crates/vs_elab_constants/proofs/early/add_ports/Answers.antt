use Rattle.std.proofs.Common.{List, [], ◌∷◌, None, map, arith}
use Rattle.vs_scopes.specs.declared.ports.ModulePort.{ModulePort as FoundPort}
use Rattle.vs_scopes.specs.Declarations.{DeclaredName, declared_by_port, signal_names}
use Rattle.vs_scopes.specs.scopes_passes.Parts.{read_port}
use Rattle.vs_elab_constants.specs.passes.Early.{bound_by}
use Rattle.vs_scopes.proofs.PassLemmas.{maps_three}
use Rattle.vs_scopes.proofs.DeclaredLemmas.{adds_step}
use Rattle.vs_elab_constants.proofs.early.add_ports.Goals as goal

pub loop-port-preserved : goal.loop-port-preserved
loop-port-preserved c =
    adds_step c.args.names.now c.loop-port.names c.add_first.new.names c.args.ports.now c.loop-port.port-index c.port-item.result (λ (xs : List FoundPort). signal_names (bound_by c.args.signals) (map (declared_by_port (λ n. None)) (map read_port xs))) ((c.port-item.result.name.now, bound_by c.args.signals c.port-item.result.kind) ∷ []) (omega arith) c.port-item.is
    (maps_three read_port (declared_by_port (λ n. None)) (λ (d : DeclaredName). (d.name, bound_by c.args.signals d.kind)) c.port-item.result) c.loop-port.invariant (rw c.signal_binding.ensures at c.in_ok-add_first.ensures)
