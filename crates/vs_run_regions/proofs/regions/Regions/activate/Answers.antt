use Rattle.std.proofs.Common.{◌≡◌, ◌∙◌, ℕ, List, false, map, ap, sym, subst}
use Rattle.std.specs.List.{list_any}
use Rattle.vs_process.specs.States.{Update, activated}
use Rattle.vs_run_regions.specs.Active.{is_active}
use Rattle.vs_run_regions.specs.Regions.{Waiting, AreHeld}
use Rattle.vs_run_regions.proofs.HeldLemmas.{held_activated, none_left}
use Rattle.vs_run_regions.proofs.regions.Regions.activate.Goals as goal

pub activate-requires : goal.activate-requires
activate-requires g c = none_left (subst (λ (w : Waiting). list_any is_active w.updates ≡ false) (sym c.self.view_is) c.requires) c.self.invariant

pub invariant_of-self : goal.invariant_of-self
invariant_of-self g c =
    let idle = subst (λ (w : Waiting). list_any is_active w.updates ≡ false) (sym c.self.view_is) c.requires in
    subst (λ (us : List Update). AreHeld us c.activate.new.self (g.Q.EventQueue.bag c.self.inside.queue) (g.Q.EventQueue.clock c.self.inside.queue))
    (sym (c.next-self-inside.ensures ∙ ap (λ (n : ℕ). map (activated n) c.self.inside.updates.items) c.now-time.ensures))
    (held_activated c.self.inside.listed c.activate.new.self idle c.self.invariant c.activate.ensures.active c.activate.ensures.due)
