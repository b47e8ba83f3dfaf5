use Rattle.std.proofs.lemmas.List.Sorted.{non_decreasing_from_is_sorted}
use Rattle.vs_graph.proofs.Orders.{where_sorted}
use Rattle.vs_graph.proofs.residues.Residues.of.Goals as goal

pub invariant_of-result : goal.invariant_of-result
invariant_of-result c =
    where_sorted c.args.all.now c.is_sorted-ascends.result _ (non_decreasing_from_is_sorted c.args.all.now c.is_sorted-ascends.result c.is_sorted-ascends.ensures.cases)
