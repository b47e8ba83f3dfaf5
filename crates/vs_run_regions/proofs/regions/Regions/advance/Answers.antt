use Rattle.std.proofs.Common.{◌≡◌, ◌≤◌, ◌++◌, ◌∙◌, ℕ, List, false, filter, ap, sym, subst}
use Rattle.std.specs.List.{list_any}
use Rattle.std.specs.Option.{ForSome}
use Rattle.vs_time_wheel.specs.Bag.{events_at, least_time}
use Rattle.vs_process.specs.Executions.{next_update}
use Rattle.vs_process.specs.States.{Update, is_due}
use Rattle.vs_run_regions.specs.Active.{is_active, not_due}
use Rattle.vs_run_regions.specs.Items.{wakes}
use Rattle.vs_run_regions.specs.Regions.{Waiting, AreHeld}
use Rattle.vs_run_regions.proofs.ItemsLemmas.{sleepers_at}
use Rattle.vs_run_regions.proofs.HeldLemmas.{held_advanced, held_lost}
use Rattle.vs_run_regions.proofs.TimesLemmas.{none_passed}
use Rattle.vs_run_regions.proofs.regions.Regions.advance.Goals as goal

pub take_due-requires-clause-none_before : goal.take_due-requires-clause-none_before
take_due-requires-clause-none_before g c =
    none_passed c.self.inside.updates.items _ _ (g.Q.EventQueue.bag c.self.inside.queue) (g.Q.EventQueue.clock c.self.inside.queue) c.self.invariant.kept
    (subst (λ (w : Waiting). list_any is_active w.updates ≡ false) (sym c.self.view_is) c.requires.idle)
    (subst (λ (w : Waiting). list_any (is_due w.time) w.updates ≡ false) (sym c.self.view_is) c.requires.done) c.args.time
    (subst (λ (w : Waiting). ForSome (next_update (least_time w.sleepers) w.updates) (λ next. c.args.time ≤ next)) (sym c.self.view_is) c.requires.none_before)

pub invariant_of-self : goal.invariant_of-self
invariant_of-self g c =
    let done = subst (λ (w : Waiting). list_any (is_due w.time) w.updates ≡ false) (sym c.self.view_is) c.requires.done in
    subst (λ (n : ℕ). AreHeld c.self.inside.updates.items c.take_due.new.updates (g.Q.EventQueue.bag c.take_due.new.queue) n) (sym c.take_due.ensures.clock)
    (held_advanced c.self.inside.listed c.take_due.new.updates c.args.time c.self.invariant done c.take_due.ensures.active (c.take_due.ensures.due c.if-take_due.true) c.take_due.ensures.taken c.take_due.ensures.others)

pub returns-then-take_due-clause-woken : goal.returns-then-take_due-clause-woken
returns-then-take_due-clause-woken g c =
    c.take_due.ensures.woken c.if-take_due.true ∙ ap (λ (l : List ℕ). c.args.woken.now.items ++ l) (sym (sleepers_at c.args.time (g.Q.EventQueue.bag c.self.inside.queue)))
    ∙ ap (λ (w : Waiting). c.args.woken.now.items ++ events_at c.args.time w.sleepers) c.self.view_is

pub returns-then-take_due-clause-taken : goal.returns-then-take_due-clause-taken
returns-then-take_due-clause-taken g c = sleepers_at c.args.time (g.Q.EventQueue.bag c.take_due.new.queue) ∙ ap wakes c.take_due.ensures.taken

pub returns-then-take_due-clause-others : goal.returns-then-take_due-clause-others
returns-then-take_due-clause-others g c = λ t apart.
    sleepers_at t (g.Q.EventQueue.bag c.take_due.new.queue) ∙ ap wakes (c.take_due.ensures.others t apart) ∙ sym (sleepers_at t (g.Q.EventQueue.bag c.self.inside.queue))
    ∙ ap (λ (w : Waiting). events_at t w.sleepers) c.self.view_is

pub invariant_of-self-2 : goal.invariant_of-self-2
invariant_of-self-2 g c =
    let done = subst (λ (w : Waiting). list_any (is_due w.time) w.updates ≡ false) (sym c.self.view_is) c.requires.done in
    subst (λ (us : List Update). AreHeld us c.lose.new.self (g.Q.EventQueue.bag c.take_due.new.queue) (g.Q.EventQueue.clock c.take_due.new.queue)) (sym c.next-self-inside.ensures)
    (subst (λ (n : ℕ). AreHeld (filter (not_due c.args.time) c.self.inside.updates.items) c.lose.new.self (g.Q.EventQueue.bag c.take_due.new.queue) n) (sym c.take_due.ensures.clock)
    (held_lost c.self.inside.listed c.lose.new.self c.args.time c.self.invariant done (ap (λ l. l.active) c.lose.ensures ∙ c.take_due.ensures.active) (ap (λ l. l.due) c.lose.ensures)
    c.take_due.ensures.taken c.take_due.ensures.others))

pub returns-clause-taken : goal.returns-clause-taken
returns-clause-taken g c = sleepers_at c.args.time (g.Q.EventQueue.bag c.take_due.new.queue) ∙ ap wakes c.take_due.ensures.taken

pub returns-clause-others : goal.returns-clause-others
returns-clause-others g c = λ t apart.
    sleepers_at t (g.Q.EventQueue.bag c.take_due.new.queue) ∙ ap wakes (c.take_due.ensures.others t apart) ∙ sym (sleepers_at t (g.Q.EventQueue.bag c.self.inside.queue))
    ∙ ap (λ (w : Waiting). events_at t w.sleepers) c.self.view_is
