use Rattle.std.proofs.Common.{◌≡◌, ◌≤◌, ◌++◌, [], reverse, Some, true, false, ap, ◌∙◌}
use Rattle.std.specs.Option.{ForSome}
use Rattle.vs_time_wheel.specs.Bag.{events_at, least_time, oldest_at}
use Rattle.vs_time_wheel.specs.ShortList.{AreInOrder, IsNextDue, next_in_order}
use Rattle.vs_time_wheel.proofs.ShortList.{at_most_late, none_listed, oldest_at-late, rest_late, in_order_popped, next_of_both}
use Rattle.vs_time_wheel.proofs.upcoming.Upcoming.take.Goals as goal

pub take_from_calendar-event-requires-clause-none_before : goal.take_from_calendar-event-requires-clause-none_before
take_from_calendar-event-requires-clause-none_before g c =
    let on : ForSome (least_time (reverse c.self.inside.list.items ++ c.self.inside.calendar.bag)) (λ next. c.args.time ≤ next) = rw (ap (λ q. q.bag) c.self.view_is) c.requires.none_before in
    at_most_late c.args.time (reverse c.self.inside.list.items) c.self.inside.calendar.bag on

pub returns-clause-oldest : goal.returns-clause-oldest
returns-clause-oldest g c =
    let on : ForSome (least_time (reverse c.self.inside.list.items ++ c.self.inside.calendar.bag)) (λ next. c.args.time ≤ next) = rw (ap (λ q. q.bag) c.self.view_is) c.requires.none_before in
    let apart : IsNextDue c.args.time (reverse c.self.inside.list.items) → ⊥ = λ due. absurd (let k : false ≡ true = c.if-is_next_due.ensures.1 (rw c.deref.ensures.value due) in cc) in
    let none : events_at c.args.time (reverse c.self.inside.list.items) ≡ [] = none_listed c.args.time (reverse c.self.inside.list.items) c.self.inside.calendar.bag c.self.invariant.in_order apart on in
    c.take_from_calendar-event.ensures.oldest ∙ oldest_at-late c.args.time (reverse c.self.inside.list.items) c.self.inside.calendar.bag none ∙ ap (λ q. oldest_at c.args.time q.bag) c.self.view_is

pub returns-clause-rest : goal.returns-clause-rest
returns-clause-rest g c =
    let on : ForSome (least_time (reverse c.self.inside.list.items ++ c.self.inside.calendar.bag)) (λ next. c.args.time ≤ next) = rw (ap (λ q. q.bag) c.self.view_is) c.requires.none_before in
    let apart : IsNextDue c.args.time (reverse c.self.inside.list.items) → ⊥ = λ due. absurd (let k : false ≡ true = c.if-is_next_due.ensures.1 (rw c.deref.ensures.value due) in cc) in
    let none : events_at c.args.time (reverse c.self.inside.list.items) ≡ [] = none_listed c.args.time (reverse c.self.inside.list.items) c.self.inside.calendar.bag c.self.invariant.in_order apart on in
    rw (← ap (λ q. q.bag) c.self.view_is) (rest_late c.args.time (reverse c.self.inside.list.items) c.take_from_calendar-event.new.calendar.bag c.self.inside.calendar.bag none c.take_from_calendar-event.ensures.rest)

pub invariant_of-self-then-is_next_due : goal.invariant_of-self-then-is_next_due
invariant_of-self-then-is_next_due g c =
    let sorted : AreInOrder (reverse c.pop.new.self.items) = in_order_popped c.self.inside.list.items c.pop.new.self.items (Some c.in_ok-event.field-0) c.in_ok-event.ensures.items c.self.invariant.in_order in
    record {
      in_order = sorted;
      least_late = c.self.invariant.least_late;
      least_of_all =
          c.next_of-self-inside.ensures ∙ ap (λ l. next_in_order (reverse l) c.self.inside.least) c.deref-then-is_next_due.ensures.value
          ∙ next_of_both (reverse c.pop.new.self.items) c.self.inside.calendar.bag c.self.inside.least sorted c.self.invariant.least_late;
    }

pub invariant_of-self-2 : goal.invariant_of-self-2
invariant_of-self-2 g c = record {
  in_order = c.self.invariant.in_order;
  least_late = c.take_from_calendar-event.ensures.least;
  least_of_all =
      c.next_of-self-inside-2.ensures ∙ ap (λ l. next_in_order (reverse l) c.take_from_calendar-event.new.least) c.deref-2.ensures.value
      ∙ next_of_both (reverse c.self.inside.list.items) c.take_from_calendar-event.new.calendar.bag c.take_from_calendar-event.new.least c.self.invariant.in_order c.take_from_calendar-event.ensures.least;
}
