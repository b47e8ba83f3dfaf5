use Rattle.vs_kernel.proofs.RunLemmas.{queue_run}
use Rattle.vs_race_pair.proofs.order.order_of.Goals as goal

pub returns : goal.returns
returns g c = queue_run c.args.design.now c.args.run.now c.add_woken.new.queue c.requires
