use Rattle.vs_kernel.proofs.RunLemmas.{queue_run}
use Rattle.vs_race_pair.proofs.order.make_event.Goals as goal

pub returns : goal.returns
returns g c = record { run = queue_run c.args.forms.now c.run_event.new.run c.follow.new.queue c.in_ok-run_event.ensures.run }
