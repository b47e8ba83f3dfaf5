use Rattle.vs_kernel.proofs.RunLemmas.{own_run, queue_run, run_of_own}
use Rattle.vs_race_pair.proofs.CodeLemmas.{same_run}
use Rattle.vs_race_pair.proofs.order.leave_region.Goals as goal

pub next_region-region-requires-clause-run : goal.next_region-region-requires-clause-run
next_region-region-requires-clause-run g c = own_run c.args.forms.now c.args.run.now c.requires.run

pub leave-requires-clause-run : goal.leave-requires-clause-run
leave-requires-clause-run g c = own_run c.args.forms.now c.args.run.now c.requires.run

pub returns : goal.returns
returns g c = record {
  run = queue_run c.args.forms.now c.list_updates.new.run c.add_woken.new.queue
      (same_run c.args.forms.now c.leave.new.run c.list_updates.new.run c.list_updates.ensures
      (run_of_own c.args.forms.now c.args.run.now c.leave.new.run c.requires.run c.in_ok-leave.ensures.run));
}
