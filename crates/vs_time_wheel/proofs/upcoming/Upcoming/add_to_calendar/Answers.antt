use Rattle.std.proofs.Common.{◌∷◌, [], ◌++◌, reverse, sym, ap, ◌∙◌}
use Rattle.vs_time_wheel.specs.Bag.{SameBag}
use Rattle.vs_time_wheel.proofs.Bags.{SameBag-trans, SameBag-append, least_time-same}
use Rattle.vs_time_wheel.proofs.Fronts.{SameBag-behind}
use Rattle.vs_time_wheel.proofs.ShortList.{late_added, least_more}
use Rattle.vs_time_wheel.proofs.Outcomes.{OnErr-any}
use Rattle.vs_time_wheel.proofs.upcoming.Upcoming.add_to_calendar.Goals as goal

pub invariant_of-self : goal.invariant_of-self
invariant_of-self g c =
    let kept : SameBag c.schedule.new.self.bag c.self.inside.calendar.bag = SameBag-trans c.in_err-schedule.ensures.unchanged c.catch_up.ensures.same_bag in
    record {
      in_order = c.self.invariant.in_order;
      least_late = c.self.invariant.least_late ∙ sym (least_time-same _ _ kept);
      least_of_all = c.self.invariant.least_of_all ∙ sym (least_time-same _ _ (SameBag-behind (reverse c.self.inside.list.items) _ _ kept));
    }

pub returns-in_err-schedule-clause-unchanged : goal.returns-in_err-schedule-clause-unchanged
returns-in_err-schedule-clause-unchanged g c =
    let kept : SameBag c.schedule.new.self.bag c.self.inside.calendar.bag = SameBag-trans c.in_err-schedule.ensures.unchanged c.catch_up.ensures.same_bag in
    OnErr-any c.from_residual.result (rw (← ap (λ q. q.bag) c.self.view_is) (SameBag-behind _ _ _ kept))

pub invariant_of-self-2 : goal.invariant_of-self-2
invariant_of-self-2 g c =
    let more : SameBag c.schedule.new.self.bag (c.self.inside.calendar.bag ++ record { time = c.args.time; event = c.args.event } ∷ []) =
    SameBag-trans c.in_ok-schedule.ensures.added (SameBag-append _ _ _ c.catch_up.ensures.same_bag) in
    record {
      in_order = c.self.invariant.in_order;
      least_late = c.sooner_of-self-inside.ensures ∙ least_more _ _ c.args.time c.args.event c.self.inside.least c.self.invariant.least_late more;
      least_of_all =
          c.sooner_of-self-inside-2.ensures ∙ least_more _ (reverse c.self.inside.list.items ++ c.self.inside.calendar.bag) c.args.time c.args.event c.self.inside.next c.self.invariant.least_of_all
          (late_added (reverse c.self.inside.list.items) _ c.self.inside.calendar.bag _ more);
    }

pub returns-clause-added : goal.returns-clause-added
returns-clause-added g c =
    rw (← ap (λ q. q.bag) c.self.view_is) (late_added _ _ _ _ (SameBag-trans c.in_ok-schedule.ensures.added (SameBag-append _ _ _ c.catch_up.ensures.same_bag)))
