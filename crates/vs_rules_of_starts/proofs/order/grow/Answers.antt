use Rattle.vs_rules_of_starts.proofs.OrderLemmas.{grown_self}
use Rattle.vs_rules_of_starts.proofs.order.grow.Goals as goal

pub loop-table-init : goal.loop-table-init
loop-table-init c = grown_self c.args.none c.args.table.now.items
