use Rattle.std.proofs.Common.{◌≡◌, take, sum_by}
use Rattle.vs_design.specs.declared.extent.Layout.{Layout}
use Rattle.vs_design.specs.Tables.{AreExtents}
use Rattle.vs_design.proofs.extents.table_of.Given as goal

abbrev pub invariant-loop-signal : goal.invariant-loop-signal
invariant-loop-signal l = record {
  extents : AreExtents (take l.signal-index l.signals) l.extents.items;
  end : l.first ≡ sum_by (λ (e : Layout). e.count) l.extents.items;
}
