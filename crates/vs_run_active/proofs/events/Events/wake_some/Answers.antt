use Rattle.vs_run_active.proofs.WakesLemmas.{no_bits_wake}
use Rattle.vs_run_active.proofs.events.Events.wake_some.Goals as goal

pub returns-then-bits-eq0-clause-processes : goal.returns-then-bits-eq0-clause-processes
returns-then-bits-eq0-clause-processes c = no_bits_wake c.args.word c.args.bits c.args.watchers.now c.args.self.now.processes c.if-bits-eq0.true
