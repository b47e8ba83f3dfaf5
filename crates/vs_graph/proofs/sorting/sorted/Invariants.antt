use Rattle.vs_graph.specs.Sorting.{AreSorted, AreTriedAt}
use Rattle.vs_graph.proofs.sorting.sorted.Given as goal

abbrev pub invariant-loop-i : goal.invariant-loop-i
invariant-loop-i l = record {
  sorted : AreSorted l.needs l.order.items l.placed.items;
  tried : AreTriedAt l.needs l.order.items l.placed.items l.i;
}
