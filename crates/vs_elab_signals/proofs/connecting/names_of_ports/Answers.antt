use Rattle.std.proofs.Common.{refl, ap, map, arith}
use Rattle.std.proofs.lemmas.List.{drop_all}
use Rattle.vs_scopes.specs.Ports.{port_names}
use Rattle.vs_scopes.specs.scopes_passes.Parts.{read_port}
use Rattle.vs_scopes.proofs.PassLemmas.{moved, ended}
use Rattle.vs_design.specs.vs_logic4.proofs.Basics.{front_of as drop_at}
use Rattle.vs_elab_signals.proofs.connecting.names_of_ports.Goals as goal

pub loop-port-preserved : goal.loop-port-preserved
loop-port-preserved c =
    let p = c.port-item.result in
    moved (λ n. n.now) c.loop-port.names.items c.push.new.self.items p.name p.name.now _ _ _ c.in_ok-push.ensures.items refl
    (ap (λ z. port_names (map read_port z)) (drop_at c.args.ports.now c.loop-port.port-index p (omega arith) c.port-item.is)) c.loop-port.invariant

pub returns : goal.returns
returns c = ended _ _ _ (ap (λ z. port_names (map read_port z)) (drop_all c.loop-port.port-index c.args.ports.now (omega arith))) c.loop-port.invariant
