use Rattle.std.proofs.Common.{refl}
use Rattle.vs_drivers.specs.Walks.{noted, all_noted}
use Rattle.vs_design.proofs.LoopLemmas.{went_on, went_through}
use Rattle.vs_drivers.proofs.writers.note_all.Goals as goal

pub loop-range-preserved : goal.loop-range-preserved
loop-range-preserved c =
    went_on (all_noted c.args.driver) (λ r table. noted (record { driver = c.args.driver; range = r }) table) (λ r rs table. refl) c.args.ranges.now c.loop-range.range-index _ _
    c.loop-range.table c.put.new.self _ c.loop-range-test.true refl c.in_ok-put.ensures c.loop-range.invariant

pub returns : goal.returns
returns c =
    went_through (all_noted c.args.driver) (λ table. refl) c.args.ranges.now c.loop-range.range-index c.loop-range.table _ c.loop-range-test.false c.loop-range.invariant
