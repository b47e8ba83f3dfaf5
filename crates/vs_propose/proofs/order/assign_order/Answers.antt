use Rattle.std.proofs.Common.{sym, subst}
use Rattle.vs_drivers.specs.vs_maps.specs.Texts.{AreCharts, Texts}
use Rattle.vs_graph.specs.Order.{IsSorted}
use Rattle.vs_propose.proofs.Gathered.{no_maps}
use Rattle.vs_propose.proofs.order.assign_order.Goals as goal

pub new-requires-2 : goal.new-requires-2
new-requires-2 c = subst (λ (x : Texts). AreCharts x.design x.charts) (sym c.in_ok-sites.ensures) (no_maps c.args.design.now c.requires)

pub returns : goal.returns
returns c = record {
  table = c.in_ok-needs.needs.items;
  needs = c.in_ok-needs.ensures;
  sorted = subst (λ t. IsSorted t c.in_ok-order.order.items) c.deref.ensures.value c.in_ok-order.ensures;
}
