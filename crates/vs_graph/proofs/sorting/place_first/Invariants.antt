use Rattle.std.proofs.Common.{ℕ, ◌<◌, ◌⊎◌}
use Rattle.vs_graph.specs.Sorting.{AreSorted, IsPlaced, LacksAt}
use Rattle.vs_graph.proofs.sorting.place_first.Given as goal

abbrev pub invariant-loop-x : goal.invariant-loop-x
invariant-loop-x l = record {
  sorted : AreSorted l.needs l.order.items l.placed.items;
  tried : (x : ℕ) → x < l.x → IsPlaced l.placed.items x ⊎ LacksAt l.needs l.order.items 0 x;
}
