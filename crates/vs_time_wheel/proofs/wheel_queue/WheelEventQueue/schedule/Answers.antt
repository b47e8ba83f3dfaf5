use Rattle.std.proofs.Common.{◌≡◌, ◌++◌, refl, sym, ap, ◌∙◌}
use Rattle.vs_time_wheel.proofs.Fronts.{ahead_is_newest, front_none}
use Rattle.vs_time_wheel.proofs.wheel_queue.WheelEventQueue.schedule.Goals as goal

pub returns-then-is_before-clause-added : goal.returns-then-is_before-clause-added
returns-then-is_before-clause-added g c =
    let alone : c.self.inside.others.bag ≡ c.args.self.now.bag =
    sym (ap (λ l. l ++ c.self.inside.others.bag) (front_none c.self.inside.first c.if-is_none.ensures)) ∙ ap (λ q. q.bag) c.self.view_is in
    rw (← alone) (ahead_is_newest c.args.time c.args.event c.next_time.result c.self.inside.others.bag c.next_time.ensures (c.if-is_before.ensures.0 refl))
