use Rattle.std.proofs.Common.{map, ap, ◌∙◌, arith}
use Rattle.std.proofs.lemmas.List.{take_all}
use Rattle.vs_scopes.specs.Ports.{names_where, is_joined}
use Rattle.vs_scopes.specs.scopes_passes.Parts.{read_port}
use Rattle.vs_elab_hierarchy.proofs.OwnLemmas.{joined_more}
use Rattle.vs_elab_hierarchy.proofs.own.joined_names.Goals as goal

pub loop-port-preserved : goal.loop-port-preserved
loop-port-preserved c = joined_more c.args.ports.now c.loop-port.port-index c.port-item.result _ _ (omega arith) c.port-item.is c.loop-port.invariant c.in_ok-add_joined.ensures

pub returns : goal.returns
returns c = c.loop-port.invariant ∙ ap (λ z. names_where is_joined (map read_port z)) (take_all c.loop-port.port-index c.args.ports.now (omega arith))
