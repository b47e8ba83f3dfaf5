use Rattle.std.proofs.Common.{arith}
use Rattle.vs_drivers.proofs.SignalLemmas.{all_put, none_put, one_put}
use Rattle.vs_drivers.proofs.set.SignalSet.of.Goals as goal

pub loop-signal-init : goal.loop-signal-init
loop-signal-init c = none_put c.none-set.result c.args.signals.now c.none-set.ensures

pub loop-signal-preserved : goal.loop-signal-preserved
loop-signal-preserved c =
    one_put c.loop-signal.set c.put.new.self c.args.signals.now c.loop-signal.signal-index _ c.loop-signal-test.true c.loop-signal.invariant c.in_ok-put.ensures

pub returns : goal.returns
returns c = all_put c.loop-signal.set c.args.signals.now c.loop-signal.signal-index (omega arith) c.loop-signal.invariant
