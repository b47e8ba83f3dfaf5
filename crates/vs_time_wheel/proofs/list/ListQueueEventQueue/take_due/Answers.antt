use Rattle.std.proofs.Common.{ap}
use Rattle.vs_time_wheel.proofs.Bags.{IsFrom-without_oldest}
use Rattle.vs_time_wheel.proofs.list.ListQueueEventQueue.take_due.Goals as goal

pub invariant_of-self : goal.invariant_of-self
invariant_of-self g c = rw (c.take.ensures.rest, ap (λ q. q.bag) c.self.view_is) (IsFrom-without_oldest c.args.time c.args.self.now.bag c.requires.none_before)
