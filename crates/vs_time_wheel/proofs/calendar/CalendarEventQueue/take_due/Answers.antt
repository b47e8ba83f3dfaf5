use Rattle.std.proofs.Common.{◌≡◌, ap, ◌∙◌, arith}
use Rattle.vs_time_wheel.specs.Bag.{SameBag, oldest_at}
use Rattle.vs_time_wheel.specs.Window.{calendar_bag, NoneBefore}
use Rattle.vs_time_wheel.proofs.Bags.{SameBag-trans, none_before, oldest_at-same, SameBag-without_oldest}
use Rattle.vs_time_wheel.proofs.Wound.{loose_on, bag_on, bag_taken, oldest_taken}
use Rattle.vs_time_wheel.proofs.calendar.CalendarEventQueue.take_due.Goals as goal

pub bring_near-requires : goal.bring_near-requires
bring_near-requires g c =
    let clock : c.self.inside.now ≡ c.args.self.now.clock = ap (λ q. q.clock) c.self.view_is in
    let none : NoneBefore c.self.inside.rotation c.self.inside.later c.self.inside.now c.args.time =
    rw (ap (λ q. q.bag) c.self.view_is) (none_before c.args.self.now.bag c.args.time c.requires.none_before) in
    loose_on c.self.inside.rotation c.self.inside.later c.self.inside.now c.args.time c.self.invariant (omega arith) none

pub returns-clause-oldest : goal.returns-clause-oldest
returns-clause-oldest g c =
    let clock : c.self.inside.now ≡ c.args.self.now.clock = ap (λ q. q.clock) c.self.view_is in
    let none : NoneBefore c.self.inside.rotation c.self.inside.later c.self.inside.now c.args.time =
    rw (ap (λ q. q.bag) c.self.view_is) (none_before c.args.self.now.bag c.args.time c.requires.none_before) in
    let moved : SameBag (calendar_bag c.bring_near.new.rotation c.bring_near.new.later c.args.time) (calendar_bag c.self.inside.rotation c.self.inside.later c.self.inside.now) =
    SameBag-trans c.bring_near.ensures.same_bag (bag_on c.self.inside.rotation c.self.inside.later c.self.inside.now c.args.time c.self.invariant (omega arith) none) in
    c.pop.ensures.first ∙ oldest_taken c.bring_near.new.rotation c.bring_near.new.later c.args.time c.bring_near.ensures.wound
    ∙ oldest_at-same c.args.time _ _ moved ∙ ap (λ q. oldest_at c.args.time q.bag) c.self.view_is

pub returns-clause-rest : goal.returns-clause-rest
returns-clause-rest g c =
    let clock : c.self.inside.now ≡ c.args.self.now.clock = ap (λ q. q.clock) c.self.view_is in
    let none : NoneBefore c.self.inside.rotation c.self.inside.later c.self.inside.now c.args.time =
    rw (ap (λ q. q.bag) c.self.view_is) (none_before c.args.self.now.bag c.args.time c.requires.none_before) in
    let moved : SameBag (calendar_bag c.bring_near.new.rotation c.bring_near.new.later c.args.time) (calendar_bag c.self.inside.rotation c.self.inside.later c.self.inside.now) =
    SameBag-trans c.bring_near.ensures.same_bag (bag_on c.self.inside.rotation c.self.inside.later c.self.inside.now c.args.time c.self.invariant (omega arith) none) in
    rw (c.pop.ensures.rest, ← c.self.view_is)
    (SameBag-trans (bag_taken c.bring_near.new.rotation c.bring_near.new.later c.args.time c.bring_near.ensures.wound) (SameBag-without_oldest c.args.time _ _ moved))
