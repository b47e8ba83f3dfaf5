use Rattle.std.proofs.Common.{◌≡◌, ◌∙◌, ◌∷◌, Option, Some, List, false, option_map, slice_get, true, ap, sym, subst}
use Rattle.std.specs.List.{list_any}
use Rattle.std.specs.Prelude.{IfSome}
use Rattle.vs_design.specs.Writes.{Write}
use Rattle.vs_process.specs.Executions.{if_some, is_first}
use Rattle.vs_process.specs.States.{Update}
use Rattle.vs_run_regions.specs.Active.{is_active, place_of_active}
use Rattle.vs_run_regions.specs.FilterLaws.{is_filled}
use Rattle.vs_run_regions.specs.Items.{sleepers_of}
use Rattle.vs_run_regions.specs.Regions.{AreHeld, Waiting}
use Rattle.vs_run_regions.specs.Updates.{SlotView, left_of, somes}
use Rattle.vs_run_regions.proofs.HeldLemmas.{held_any, held_next, next_first, next_there}
use Rattle.vs_run_regions.proofs.UpdatesLemmas.{on_none}
use Rattle.vs_run_regions.proofs.regions.Regions.next.Goals as goal

pub invariant_of-self : goal.invariant_of-self
invariant_of-self g c =
    subst (λ l. AreHeld c.self.inside.updates.items l (g.Q.EventQueue.bag c.self.inside.queue) (g.Q.EventQueue.clock c.self.inside.queue)) (sym c.in_err-update.ensures.unchanged) c.self.invariant

pub invariant_of-self-2 : goal.invariant_of-self-2
invariant_of-self-2 g c =
    subst (λ (us : List Update). AreHeld us c.next.new.self (g.Q.EventQueue.bag c.self.inside.queue) (g.Q.EventQueue.clock c.self.inside.queue)) (sym c.next-self-inside.ensures)
    (held_next c.self.inside.updates.items c.self.inside.listed c.next.new.self (g.Q.EventQueue.bag c.self.inside.queue) (g.Q.EventQueue.clock c.self.inside.queue) c.self.invariant
    (ap (λ l. l.due) c.next.ensures.others) c.self.inside.listed.writes c.in_ok-update.update c.in_ok-update.ensures.taken)

pub returns-in_err-update-clause-none : goal.returns-in_err-update-clause-none
returns-in_err-update-clause-none g c =
    on_none c.from_residual.result
    (subst (λ (w : Waiting). list_any is_active w.updates ≡ false) c.self.view_is
    (sym (held_any c.self.invariant) ∙ ap (λ (l : List (Option Write)). is_filled (somes l)) c.in_err-update.ensures.taken))

pub returns-in_err-update-clause-unchanged : goal.returns-in_err-update-clause-unchanged
returns-in_err-update-clause-unchanged g c =
    on_none c.from_residual.result
    (ap (λ (l : SlotView). record {
      time = g.Q.EventQueue.clock c.self.inside.queue;
      inactive = c.self.inside.inactive.items;
      sleepers = sleepers_of (g.Q.EventQueue.bag c.self.inside.queue);
      updates = c.self.inside.updates.items;
      listed = l;
    }) c.in_err-update.ensures.unchanged
    ∙ c.self.view_is)

pub returns-clause-taken : goal.returns-clause-taken
returns-clause-taken g c =
    let u = c.in_ok-update.update in
    let same : c.next.new.self.writes ≡ c.self.inside.listed.writes = ap (λ (l : SlotView). l.writes) c.next.ensures.others in
    subst (λ (w : Waiting). IfSome (left_of c.next.new.self.writes u) (λ what. option_map (λ (v : Update). v.what) (slice_get w.updates (place_of_active 0 w.updates)) ≡ Some what)) c.self.view_is
    (next_there c.self.inside.updates.items c.self.inside.listed (g.Q.EventQueue.bag c.self.inside.queue) (g.Q.EventQueue.clock c.self.inside.queue) c.self.invariant c.next.new.self.writes u
    c.next.new.self.active (c.in_ok-update.ensures.taken ∙ ap (λ (ws : List Write). left_of ws u ∷ c.next.new.self.active) (sym same)))

pub returns-clause-first : goal.returns-clause-first
returns-clause-first g c =
    let u = c.in_ok-update.update in
    let same : c.next.new.self.writes ≡ c.self.inside.listed.writes = ap (λ (l : SlotView). l.writes) c.next.ensures.others in
    subst (λ (w : Waiting). IfSome (left_of c.next.new.self.writes u) (λ what. if_some (is_first w.updates (place_of_active 0 w.updates)) (slice_get w.updates (place_of_active 0 w.updates)) ≡ true)) c.self.view_is
    (next_first c.self.inside.updates.items c.self.inside.listed (g.Q.EventQueue.bag c.self.inside.queue) (g.Q.EventQueue.clock c.self.inside.queue) c.self.invariant c.next.new.self.writes u
    c.next.new.self.active (c.in_ok-update.ensures.taken ∙ ap (λ (ws : List Write). left_of ws u ∷ c.next.new.self.active) (sym same)))
