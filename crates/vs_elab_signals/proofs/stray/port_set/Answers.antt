use Rattle.std.proofs.Common.{◌∙◌, List, true, map, take, ap, sym, subst, arith}
use Rattle.vs_scopes.specs.declared.ports.ModulePort.{ModulePort as FoundPort}
use Rattle.vs_scopes.specs.Ports.{ModulePort, port_names}
use Rattle.vs_scopes.specs.scopes_passes.Parts.{read_port, IsSet}
use Rattle.vs_scopes.proofs.ConnectionLemmas.{set_more}
use Rattle.vs_design.specs.vs_logic4.proofs.Basics.{take_push}
use Rattle.vs_scopes.proofs.PassLemmas.{maps_two}
use Rattle.vs_elab_signals.proofs.stray.port_set.Goals as goal

pub loop-port-preserved : goal.loop-port-preserved
loop-port-preserved c =
    let xs = c.args.ports.now in
    let i = c.loop-port.port-index in
    let x = c.port-item.result in
    subst (λ z. IsSet z c.bind.new.self) (sym (ap (λ (z : List FoundPort). port_names (map read_port z)) (take_push xs i x (omega arith) c.port-item.is) ∙ maps_two read_port (λ (p : ModulePort). p.name) x (take i xs)))
    (set_more c.loop-port.set c.bind.new.self (port_names (map read_port (take i xs))) x.name.now true c.in_ok-bind.ensures c.loop-port.invariant)
