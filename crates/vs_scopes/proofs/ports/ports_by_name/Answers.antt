use Rattle.std.proofs.Common.{◌∙◌, ap, map, arith}
use Rattle.std.proofs.lemmas.List.{drop_all}
use Rattle.vs_scopes.specs.Reads.{read_piece}
use Rattle.vs_scopes.specs.Ports.{port_by_items, port_of_items, port_said, kind_said}
use Rattle.vs_scopes.specs.scopes_passes.Parts.{read_port}
use Rattle.vs_scopes.proofs.PassLemmas.{moved, map_at, ended}
use Rattle.vs_scopes.proofs.ports.ports_by_name.Goals as goal

pub loop-port-preserved : goal.loop-port-preserved
loop-port-preserved c =
    let ps = map read_piece c.args.pieces.now in
    let p = c.port-item.result in
    moved read_port c.loop-port.ports.items c.push.new.self.items c.port_by_name.result (port_by_items ps p) _ _ _ c.in_ok-push.ensures.items
    (c.port_by_name.ensures ps c.in_ok-forms.ensures c.in_ok-kinds.ensures ∙ ap (λ n. port_of_items (port_said ps n) n (kind_said ps n)) c.deref.ensures.value)
    (map_at (port_by_items ps) c.args.list.now c.loop-port.port-index p (omega arith) c.port-item.is) c.loop-port.invariant

pub returns : goal.returns
returns c = ended _ _ _ (ap (map (port_by_items (map read_piece c.args.pieces.now))) (drop_all c.loop-port.port-index c.args.list.now (omega arith))) c.loop-port.invariant
