use Rattle.std.proofs.Common.{get_or, ◌∙◌, sym, ap, arith}
use Rattle.vs_design.specs.vs_logic4.specs.declared.digit.Digit.TheVariants.{Zero}
use Rattle.vs_design.specs.vs_logic4.specs.declared.edge.Edge.{Edge}
use Rattle.vs_design.specs.vs_logic4.specs.declared.edge.Edge.TheVariants.{Any, Posedge, Negedge}
use Rattle.vs_design.specs.vs_logic4.specs.Edges.{is_edge}
use Rattle.vs_eval.proofs.Edges.{any_at, posedge_at, negedge_at, edge_at_place}
use Rattle.vs_eval.proofs.edge_bits.edges.Goals as goal

pub returns-in-Any : goal.returns-in-Any
returns-in-Any c = λ place within.
    edge_at_place Any _ _ _ place c.value_plane-value.ensures c.unknown_plane-unknown.ensures c.value_plane-value_behind.ensures c.unknown_plane-unknown_behind.ensures
    (any_at _ _ _ _ place)
    ∙ sym (ap (λ (edge : Edge). is_edge edge (get_or c.args.before place Zero) (get_or c.args.behind place Zero)) c.in-Any.is)

pub returns-in-Posedge : goal.returns-in-Posedge
returns-in-Posedge c = λ place within.
    edge_at_place Posedge _ _ _ place c.value_plane-value.ensures c.unknown_plane-unknown.ensures c.value_plane-value_behind.ensures c.unknown_plane-unknown_behind.ensures
    (posedge_at _ _ _ _ place (omega (arith, c.value_plane-value.type_inv)) (omega (arith, c.unknown_plane-unknown.type_inv)) (omega (arith, c.unknown_plane-unknown_behind.type_inv)) within)
    ∙ sym (ap (λ (edge : Edge). is_edge edge (get_or c.args.before place Zero) (get_or c.args.behind place Zero)) c.in-Posedge.is)

pub returns-in-Negedge : goal.returns-in-Negedge
returns-in-Negedge c = λ place within.
    edge_at_place Negedge _ _ _ place c.value_plane-value.ensures c.unknown_plane-unknown.ensures c.value_plane-value_behind.ensures c.unknown_plane-unknown_behind.ensures
    (negedge_at _ _ _ _ place (omega (arith, c.unknown_plane-unknown.type_inv)) (omega (arith, c.value_plane-value_behind.type_inv)) (omega (arith, c.unknown_plane-unknown_behind.type_inv)) within)
    ∙ sym (ap (λ (edge : Edge). is_edge edge (get_or c.args.before place Zero) (get_or c.args.behind place Zero)) c.in-Negedge.is)
