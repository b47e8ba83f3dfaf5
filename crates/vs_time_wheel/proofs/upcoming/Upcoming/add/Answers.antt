use Rattle.std.proofs.Common.{◌≡◌, ◌∷◌, [], ◌++◌, reverse, refl, ap, arith, ◌∙◌}
use Rattle.vs_time_wheel.specs.Bag.{SameBag, events_at}
use Rattle.vs_time_wheel.proofs.Fronts.{none_up_to}
use Rattle.vs_time_wheel.proofs.ShortList.{listed_added, least_more}
use Rattle.vs_time_wheel.proofs.upcoming.Upcoming.add.Goals as goal

pub invariant_of-self-then-is_before : goal.invariant_of-self-then-is_before
invariant_of-self-then-is_before g c =
    let none : events_at c.args.time c.self.inside.calendar.bag ≡ [] =
    none_up_to c.args.time c.self.inside.least c.self.inside.calendar.bag c.self.invariant.least_late (c.if-is_before.ensures.0 refl) c.args.time (omega arith) in
    let more : SameBag (reverse c.enlist.new.list.items ++ c.self.inside.calendar.bag) ((reverse c.self.inside.list.items ++ c.self.inside.calendar.bag) ++ record { time = c.args.time; event = c.args.event } ∷ []) =
    listed_added _ _ _ _ c.in_ok-enlist.ensures.added none in
    record {
      in_order = c.enlist.ensures.in_order;
      least_late = c.self.invariant.least_late;
      least_of_all = c.sooner_of-self-inside.ensures ∙ least_more _ _ c.args.time c.args.event c.self.inside.next c.self.invariant.least_of_all more;
    }

pub returns-then-is_before-clause-added : goal.returns-then-is_before-clause-added
returns-then-is_before-clause-added g c =
    let none : events_at c.args.time c.self.inside.calendar.bag ≡ [] =
    none_up_to c.args.time c.self.inside.least c.self.inside.calendar.bag c.self.invariant.least_late (c.if-is_before.ensures.0 refl) c.args.time (omega arith) in
    rw (← ap (λ q. q.bag) c.self.view_is) (listed_added _ _ _ _ c.in_ok-enlist.ensures.added none)
