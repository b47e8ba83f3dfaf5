use Rattle.vs_graph.proofs.Sorts.{more_first}
use Rattle.vs_graph.proofs.sorting.place_first.Goals as goal

pub loop-x-preserved : goal.loop-x-preserved
loop-x-preserved c = record {
  sorted = c.in_ok-place.ensures.sorted;
  tried = more_first c.args.needs.now c.loop-x.order.items c.place.new.order.items c.loop-x.placed.items c.place.new.placed.items c.loop-x.x
      c.loop-x.invariant.sorted c.in_ok-place.ensures c.loop-x-test.true c.loop-x.invariant.tried;
}
