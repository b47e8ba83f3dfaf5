use Rattle.std.proofs.Common.{◌∙◌, ap₂, arith}
use Rattle.vs_scopes.specs.Ports.{port_as}
use Rattle.vs_scopes.specs.scopes_passes.Parts.{read_end, read_port}
use Rattle.vs_scopes.proofs.PassLemmas.{moved}
use Rattle.vs_scopes.proofs.PortLemmas.{port_at}
use Rattle.vs_scopes.proofs.ports.header_ports.Goals as goal

pub loop-port-preserved : goal.loop-port-preserved
loop-port-preserved c =
    let p = c.port-item.result in
    let now = read_end c.said-before.result in
    moved read_port c.loop-port.ports.items c.push.new.self.items c.described.result (port_as now p.name.items p.value) _ _ _ c.in_ok-push.ensures.items (c.described.ensures ∙ ap₂ (port_as now) c.deref.ensures.value c.as_ref.ensures.value)
    (port_at (read_end c.loop-port.before) c.args.list.now c.loop-port.port-index p now (omega arith) c.port-item.is c.said-before.ensures) c.loop-port.invariant
