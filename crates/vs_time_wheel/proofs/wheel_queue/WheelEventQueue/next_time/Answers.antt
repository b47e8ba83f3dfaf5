use Rattle.std.proofs.Common.{◌++◌}
use Rattle.vs_time_wheel.specs.Front.{front}
use Rattle.vs_time_wheel.proofs.Bags.{not_over}
use Rattle.vs_time_wheel.proofs.Fronts.{next_in_front, next_behind}
use Rattle.vs_time_wheel.proofs.wheel_queue.WheelEventQueue.next_time.Goals as goal

pub returns-in-Some-clause-not_over : goal.returns-in-Some-clause-not_over
returns-in-Some-clause-not_over g c =
    rw (← c.self.view_is) (not_over c.self.inside.now (front c.self.inside.first ++ c.self.inside.others.bag) c.sooner_of.result c.self.invariant.from_now
    (next_in_front c.self.inside.first c.in-Some.first c.next_time.result c.self.inside.others.bag c.sooner_of.result c.in-Some.is c.next_time.ensures c.sooner_of.ensures))

pub returns-in-None-clause-not_over : goal.returns-in-None-clause-not_over
returns-in-None-clause-not_over g c =
    rw (← c.self.view_is) (not_over c.self.inside.now (front c.self.inside.first ++ c.self.inside.others.bag) c.next_time-in-None.result c.self.invariant.from_now
    (next_behind c.self.inside.first c.next_time-in-None.result c.self.inside.others.bag c.in-None.is c.next_time-in-None.ensures))
