use Rattle.std.proofs.Common.{◌≡◌, ap, ◌∙◌, arith}
use Rattle.vs_time_wheel.specs.Window.{calendar_bag}
use Rattle.vs_time_wheel.proofs.Bags.{SameBag-trans, SameBag-from_eq}
use Rattle.vs_time_wheel.proofs.Outcomes.{OnOk-map, OnErr-map}
use Rattle.vs_time_wheel.proofs.Wound.{bag_near, bag_late, bag_unchanged}
use Rattle.vs_time_wheel.proofs.calendar.CalendarEventQueue.schedule.Goals as goal

pub returns-then-time-self-clause-added : goal.returns-then-time-self-clause-added
returns-then-time-self-clause-added g c =
    let clock : c.self.inside.now ≡ c.args.self.now.clock = ap (λ q. q.clock) c.self.view_is in
    OnOk-map c.push.result _ _
    (λ e. SameBag-trans (SameBag-from_eq (ap (λ slots. calendar_bag slots c.self.inside.later c.self.inside.now) e)) (rw (← c.self.view_is) (bag_near c.self.inside.rotation c.self.inside.later c.self.inside.now c.args.time c.args.event c.self.invariant (omega arith) (omega arith) c.ranges.time.fits)))
    c.push.ensures.added

pub returns-clause-added : goal.returns-clause-added
returns-clause-added g c =
    let clock : c.self.inside.now ≡ c.args.self.now.clock = ap (λ q. q.clock) c.self.view_is in
    OnOk-map c.postpone.result _ _
    (λ p. rw (← c.self.view_is) (bag_late c.self.inside.rotation c.self.inside.later c.postpone.new.later c.self.inside.now c.args.time c.args.event c.self.invariant (omega arith) p))
    c.postpone.ensures.added

pub returns-clause-unchanged : goal.returns-clause-unchanged
returns-clause-unchanged g c =
    OnErr-map c.postpone.result _ _
    (λ e. SameBag-from_eq (bag_unchanged c.self.inside.rotation c.self.inside.later c.postpone.new.later c.self.inside.now e ∙ ap (λ q. q.bag) c.self.view_is))
    c.postpone.ensures.unchanged
