use Rattle.vs_rows_units.proofs.ThreeSignals.{three_well_formed}
use Rattle.vs_rows_units.proofs.small_design.three_signals_of.Goals as goal

pub new-requires : goal.new-requires
new-requires c = record {
  well_formed = three_well_formed _ c.in_ok-signals.signals.items c.new-assigns.result.items c.new-processes.result.items c.in_ok-outline.outline.items
      c.in_ok-signals.ensures c.new-assigns.ensures.items c.new-processes.ensures.items c.in_ok-outline.ensures;
}
