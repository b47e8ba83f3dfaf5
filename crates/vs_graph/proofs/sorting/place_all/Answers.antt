use Rattle.std.proofs.lemmas.Option.{slice_get-get_or}
use Rattle.vs_graph.proofs.Sorts.{more_tried, all_tried, goes_trans}
use Rattle.vs_graph.proofs.sorting.place_all.Goals as goal

pub loop-x-preserved : goal.loop-x-preserved
loop-x-preserved c = record {
  sorted = c.in_ok-place.ensures.sorted;
  goes_on = goes_trans c.args.order.now.items c.loop-x.order.items c.place.new.order.items c.loop-x.invariant.goes_on c.in_ok-place.ensures.goes_on;
  tried = more_tried c.args.needs.now c.args.order.now.items c.loop-x.order.items c.place.new.order.items c.loop-x.placed.items c.place.new.placed.items _ c.loop-x.x-index c.args.things.now
      c.loop-x.invariant.sorted c.loop-x.invariant.goes_on (slice_get-get_or _ _ 0 c.loop-x-test.true) c.in_ok-place.ensures c.loop-x.invariant.tried;
}

pub returns : goal.returns
returns c =
    all_tried c.args.needs.now c.args.order.now.items c.loop-x.order.items c.loop-x.placed.items c.loop-x.x-index c.args.things.now
    c.loop-x.invariant.sorted c.loop-x.invariant.goes_on c.loop-x-test.false c.loop-x.invariant.tried
