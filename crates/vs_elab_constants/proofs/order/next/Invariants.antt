use Rattle.std.proofs.Common.{length}
use Rattle.vs_elab_constants.proofs.order.next.Given as goal

abbrev pub decreases-loop-task : goal.decreases-loop-task
decreases-loop-task l = length l.walk.tasks.items
