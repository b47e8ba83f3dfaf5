use Rattle.std.proofs.Common.{◌≡◌, length, slice_get, Some, refl, subst, arith}
use Rattle.std.proofs.lemmas.Option.{slice_get_read}
use Rattle.vs_graph.specs.Sorting.{ArePlacing}
use Rattle.vs_graph.proofs.Sorts.{tried_on, all_sorted}
use Rattle.vs_graph.proofs.sorting.sorted.Goals as goal
use Rattle.vs_graph.proofs.sorting.sorted.Goals.{else-loop-i-test, then-loop-i-test+then-i-len}

pub loop-i-preserved : goal.loop-i-preserved
loop-i-preserved c =
    let at : slice_get c.loop-i.order.items c.loop-i.i ≡ Some c.index-x.result.now = slice_get_read c.loop-i.order.items (length c.loop-i.order.items) c.loop-i.i c.index-x.result.now refl (omega arith) c.index-x.ensures in
    record {
      sorted = c.in_ok-place_all.ensures.sorted;
      tried = tried_on c.args.needs.now c.in_ok-users.users c.loop-i.order.items c.place_all.new.order.items c.loop-i.placed.items c.place_all.new.placed.items c.loop-i.i
          c.index-x.result.now c.in_ok-users.ensures c.loop-i.invariant.sorted at
          (subst (λ t. ArePlacing c.args.needs.now t c.loop-i.order.items c.place_all.new.order.items c.place_all.new.placed.items) c.row.ensures c.in_ok-place_all.ensures) c.loop-i.invariant.tried;
    }

pub returns : goal.returns
returns c =
    all_sorted c.args.needs.now c.loop-i.order.items c.loop-i.placed.items c.loop-i.i c.loop-i.invariant.sorted
    (elim c.loop-i-test.branch [ else-loop-i-test w ↦ omega (arith, c.loop-i.order.small, c.loop-i.order.ok) | then-loop-i-test+then-i-len w ↦ omega arith ])
    c.loop-i.invariant.tried
