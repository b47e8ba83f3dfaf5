use Rattle.std.proofs.Common.{◌++◌, refl, sym, append_assoc}
use Rattle.vs_design.proofs.LoopLemmas.{went_on, all_pushed}
use Rattle.vs_drivers.specs.Walks.{met, all_met}
use Rattle.vs_drivers.proofs.walks.push_all_met.Goals as goal

pub loop-range-preserved : goal.loop-range-preserved
loop-range-preserved c =
    went_on (λ ys rs. rs ++ all_met c.args.signals.now c.args.writers.now ys) (λ r rs. rs ++ met c.args.signals.now c.args.writers.now r)
    (λ r ys rs. sym (append_assoc rs (met c.args.signals.now c.args.writers.now r) (all_met c.args.signals.now c.args.writers.now ys)))
    c.args.ranges.now c.loop-range.range-index _ _
    c.loop-range.out.items c.push_met.new.out.items _ c.loop-range-test.true refl c.in_ok-push_met.ensures c.loop-range.invariant

pub returns : goal.returns
returns c =
    all_pushed (met c.args.signals.now c.args.writers.now) c.args.ranges.now c.loop-range.range-index c.loop-range.out.items _ c.loop-range-test.false
    c.loop-range.invariant
