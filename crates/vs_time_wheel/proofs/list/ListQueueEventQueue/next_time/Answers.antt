use Rattle.std.proofs.Common.{ap, ◌∙◌}
use Rattle.vs_time_wheel.specs.Bag.{least_time}
use Rattle.vs_time_wheel.proofs.Bags.{not_over}
use Rattle.vs_time_wheel.proofs.list.ListQueueEventQueue.next_time.Goals as goal

pub returns-clause-not_over : goal.returns-clause-not_over
returns-clause-not_over g c = rw (← c.self.view_is) (not_over c.self.inside.now c.self.inside.items.items c.least.result c.self.invariant (c.least.ensures ∙ ap least_time c.deref.ensures.value))
