use Rattle.std.proofs.Common.{sym, ap, ◌∙◌}
use Rattle.vs_time_wheel.specs.Bag.{least_time}
use Rattle.vs_time_wheel.specs.Window.{calendar_bag}
use Rattle.vs_time_wheel.proofs.Bags.{not_over}
use Rattle.vs_time_wheel.proofs.Wound.{next_in_slots, fits_in_slots, next_from_map, calendar_bag-from}
use Rattle.vs_time_wheel.proofs.calendar.CalendarEventQueue.next_time.Goals as goal

pub overflow_add-result : goal.overflow_add-result
overflow_add-result g c = record { fits = fits_in_slots c.self.inside.rotation c.self.inside.later c.self.inside.now c.in-Some.ahead c.self.invariant c.in-Some.ensures.0 c.in-Some.ensures.1 }

pub returns-in-Some-clause-least : goal.returns-in-Some-clause-least
returns-in-Some-clause-least g c =
    sym (next_in_slots c.self.inside.rotation c.self.inside.later c.self.inside.now c.in-Some.ahead c.self.invariant c.in-Some.ensures.0 c.in-Some.ensures.1 c.in-Some.ensures.2)
    ∙ ap (λ q. least_time q.bag) c.self.view_is

pub returns-in-None-clause-least : goal.returns-in-None-clause-least
returns-in-None-clause-least g c =
    next_from_map c.self.inside.rotation c.self.inside.later c.self.inside.now c.self.invariant c.in-None.ensures c.first_time.result c.first_time.ensures
    ∙ ap (λ q. least_time q.bag) c.self.view_is

pub returns-in-None-clause-not_over : goal.returns-in-None-clause-not_over
returns-in-None-clause-not_over g c =
    rw (← c.self.view_is) (not_over c.self.inside.now (calendar_bag c.self.inside.rotation c.self.inside.later c.self.inside.now) c.first_time.result (calendar_bag-from c.self.inside.rotation c.self.inside.later c.self.inside.now c.self.invariant)
    (next_from_map c.self.inside.rotation c.self.inside.later c.self.inside.now c.self.invariant c.in-None.ensures c.first_time.result c.first_time.ensures))
