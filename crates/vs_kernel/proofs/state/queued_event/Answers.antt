use Rattle.vs_kernel.proofs.RunLemmas.{queue_run}
use Rattle.vs_kernel.proofs.state.queued_event.Goals as goal

pub returns-then-is_some-clause-run : goal.returns-then-is_some-clause-run
returns-then-is_some-clause-run g c = λ design h. queue_run design c.args.run.now c.pop.new.self h

pub returns-clause-run : goal.returns-clause-run
returns-clause-run g c = λ design h. c.later_number.ensures.run design (queue_run design c.args.run.now c.pop.new.self h)
