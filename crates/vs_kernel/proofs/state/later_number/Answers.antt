use Rattle.vs_kernel.proofs.RunLemmas.{queue_run}
use Rattle.vs_kernel.proofs.state.later_number.Goals as goal

pub returns-in_err-number-clause-run : goal.returns-in_err-number-clause-run
returns-in_err-number-clause-run g c = λ design h. queue_run design c.loop.run c.pop.new.self (c.loop.invariant.run design h)

pub returns-then-is_some-clause-run : goal.returns-then-is_some-clause-run
returns-then-is_some-clause-run g c = λ design h. queue_run design c.loop.run c.pop.new.self (c.loop.invariant.run design h)

pub loop-preserved : goal.loop-preserved
loop-preserved g c = record {
  state = c.loop.invariant.state;
  marks = c.loop.invariant.marks;
  run = λ design h. queue_run design c.loop.run c.pop.new.self (c.loop.invariant.run design h);
}
