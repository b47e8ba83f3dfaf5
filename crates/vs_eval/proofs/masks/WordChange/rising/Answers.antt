use Rattle.std.proofs.Common.{arith}
use Rattle.vs_design.specs.vs_logic4.specs.declared.edge.Edge.TheVariants.{Posedge}
use Rattle.vs_eval.proofs.Edges.{posedge_at, edge_at_place}
use Rattle.vs_eval.proofs.MasksLemmas.{unknown_below, value_below}
use Rattle.vs_eval.proofs.masks.WordChange.rising.Goals as goal

pub returns : goal.returns
returns c = λ before after change place within.
    let x = c.args.self in
    let u = unknown_below before x.unknown change.unknown change.limit in
    let t = unknown_below after x.new_unknown change.new_unknown (omega (arith, change.size, change.limit)) in
    let v = value_below before x.value change.value change.limit in
    edge_at_place Posedge before after _ place change.value change.unknown change.new_value change.new_unknown
    (posedge_at x.value x.unknown x.new_value x.new_unknown place v u t within)
