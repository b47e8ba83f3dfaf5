use Rattle.std.proofs.Common.{◌≡◌, ap, subst, sym, arith}
use Rattle.std.specs.Result.{is_ok}
use Rattle.vs_time_wheel.specs.Bag.{IsFrom}
use Rattle.vs_time_wheel.proofs.Bags.{IsFrom-pushed}
use Rattle.vs_time_wheel.proofs.list.ListQueueEventQueue.schedule.Goals as goal

pub invariant_of-self : goal.invariant_of-self
invariant_of-self g c =
    let clock : c.self.inside.now ≡ c.args.self.now.clock = ap (λ q. q.clock) c.self.view_is in
    subst (λ items. IsFrom c.self.inside.now items) (sym c.push.ensures.items)
    (IsFrom-pushed (is_ok c.push.result) c.self.inside.now c.args.time c.self.inside.items.items c.args.event c.self.invariant (omega arith))
