use Rattle.vs_time_wheel.proofs.Bags.{least_from-start}
use Rattle.vs_time_wheel.proofs.list.least.Goals as goal

pub loop-item-init : goal.loop-item-init
loop-item-init g c = least_from-start {E = g.row.E.Denot} c.args.items.now
