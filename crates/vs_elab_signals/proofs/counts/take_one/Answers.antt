use Rattle.std.proofs.Common.{arith}
use Rattle.vs_elab_signals.proofs.CountingLemmas.{takes_one, takes_none}
use Rattle.vs_elab_signals.proofs.counts.take_one.Goals as goal

pub returns-then-before-eq0 : goal.returns-then-before-eq0
returns-then-before-eq0 c ns h = takes_none ns c.args.name.now c.args.counts.now c.count-before.result h c.count-before.ensures (omega arith)

pub returns : goal.returns
returns c ns h = takes_one ns c.args.name.now c.args.counts.now c.bind.new.self c.count-before.result _ h c.count-before.ensures (omega arith) (omega arith) c.in_ok-bind.ensures
