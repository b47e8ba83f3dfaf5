use Rattle.std.proofs.Common.{ℕ, ◌≡◌, ◌<◌, Some, slice_get}
use Rattle.vs_graph.specs.Sorting.{AreSorted, GoesOn, IsTried}
use Rattle.vs_graph.proofs.sorting.place_all.Given as goal

abbrev pub invariant-loop-x : goal.invariant-loop-x
invariant-loop-x l = record {
  sorted : AreSorted l.needs l.order.items l.placed.items;
  goes_on : GoesOn l.fn.order.items l.order.items;
  tried : (k x : ℕ) → k < l.x-index → slice_get l.things k ≡ Some x → IsTried l.needs l.fn.order.items l.placed.items x;
}
