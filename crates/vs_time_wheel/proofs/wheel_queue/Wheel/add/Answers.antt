use Rattle.std.proofs.Common.{◌≤◌, ap}
use Rattle.vs_time_wheel.specs.Front.{front}
use Rattle.vs_time_wheel.proofs.Fronts.{from_added}
use Rattle.vs_time_wheel.proofs.wheel_queue.Wheel.add.Goals as goal

pub invariant_of-self-2 : goal.invariant_of-self-2
invariant_of-self-2 g c =
    let on : c.self.inside.now ≤ c.args.time = rw (ap (λ q. q.clock) c.self.view_is) c.requires.from_now in
    record {
      not_over = c.add.ensures.not_over;
      from_now = from_added c.add.result c.self.inside.now c.args.time c.args.event (front c.self.inside.first) c.add.new.self.bag c.self.inside.others.bag c.self.invariant.from_now on c.add.ensures.added c.add.ensures.unchanged;
    }
