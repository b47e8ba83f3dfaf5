use Rattle.std.proofs.Common.{◌≡◌, ◌<◌, ◌∷◌, ◌++◌, [], ℕ, List, ap, sym, subst, arith}
use Rattle.vs_time_wheel.specs.Bag.{SameBag}
use Rattle.vs_process.specs.States.{Update}
use Rattle.vs_run_regions.specs.Items.{sleepers_of}
use Rattle.vs_run_regions.specs.Regions.{Waiting, AreHeld}
use Rattle.vs_run_regions.proofs.HeldLemmas.{held_late, late_sleepers}
use Rattle.vs_run_regions.proofs.ItemsLemmas.{sleepers_same}
use Rattle.vs_run_regions.proofs.regions.Regions.push_late.Goals as goal

pub returns-in_err-enter_queue-clause-sleepers : goal.returns-in_err-enter_queue-clause-sleepers
returns-in_err-enter_queue-clause-sleepers g c =
    subst (λ (w : Waiting). SameBag (sleepers_of (g.Q.EventQueue.bag c.enter_queue.new.queue)) w.sleepers) c.self.view_is (sleepers_same c.in_err-enter_queue.ensures.unqueued)

pub returns-clause-sleepers : goal.returns-clause-sleepers
returns-clause-sleepers g c =
    subst (λ (w : Waiting). SameBag (sleepers_of (g.Q.EventQueue.bag c.enter_queue.new.queue)) w.sleepers) c.self.view_is
    (late_sleepers (g.Q.EventQueue.bag c.self.inside.queue) (g.Q.EventQueue.bag c.enter_queue.new.queue) c.new-update.result c.in_ok-enter_queue.ensures.queued)

pub invariant_of-self-2 : goal.invariant_of-self-2
invariant_of-self-2 g c =
    let u : Update = c.new-update.result in
    let now = g.Q.EventQueue.clock c.self.inside.queue in
    let later : now < c.args.due = subst (λ (w : Waiting). w.time < c.args.due) (sym c.self.view_is) c.requires in
    let at : u.due ≡ c.args.due = ap (λ (v : Update). v.due) c.new-update.ensures in
    subst (λ (us : List Update). AreHeld us c.self.inside.listed (g.Q.EventQueue.bag c.enter_queue.new.queue) (g.Q.EventQueue.clock c.enter_queue.new.queue)) (sym c.next-updates.ensures)
    (subst (λ (n : ℕ). AreHeld (c.self.inside.updates.items ++ u ∷ []) c.self.inside.listed (g.Q.EventQueue.bag c.enter_queue.new.queue) n) (sym c.enter_queue.ensures.clock)
    (held_late c.self.inside.updates.items c.self.inside.listed c.self.inside.listed (g.Q.EventQueue.bag c.self.inside.queue) now c.self.invariant u (ap (λ (v : Update). v.active) c.new-update.ensures)
    (λ e. absurd (omega (arith, later, at, e))) c.in_ok-enter_queue.ensures.queued))
