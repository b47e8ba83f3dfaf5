use Rattle.std.proofs.Common.{◌++◌, ◌∷◌, [], ℕ, sym, subst}
use Rattle.vs_time_wheel.specs.Bag.{SameBag}
use Rattle.vs_run_regions.specs.Items.{sleepers_of}
use Rattle.vs_run_regions.specs.Regions.{Waiting, AreHeld}
use Rattle.vs_run_regions.proofs.ItemsLemmas.{sleepers_same}
use Rattle.vs_run_regions.proofs.HeldLemmas.{held_slept}
use Rattle.vs_run_regions.proofs.RegionsLemmas.{slept_sleepers}
use Rattle.vs_run_regions.proofs.regions.Regions.sleep.Goals as goal

pub returns-in-Err-clause-unchanged : goal.returns-in-Err-clause-unchanged
returns-in-Err-clause-unchanged g c =
    subst (λ (w : Waiting). SameBag (sleepers_of (g.Q.EventQueue.bag c.schedule.new.self)) w.sleepers) c.self.view_is (sleepers_same c.in-Err.ensures.unchanged)

pub invariant_of-self-2 : goal.invariant_of-self-2
invariant_of-self-2 g c =
    subst (λ (n : ℕ). AreHeld c.self.inside.updates.items c.self.inside.listed (g.Q.EventQueue.bag c.schedule.new.self) n) (sym c.in_default.ensures.same_clock)
    (held_slept c.args.until c.args.process c.self.invariant c.in_default.ensures.added)

pub returns-clause-sleeps : goal.returns-clause-sleeps
returns-clause-sleeps g c =
    subst (λ (w : Waiting). SameBag (sleepers_of (g.Q.EventQueue.bag c.schedule.new.self)) (w.sleepers ++ record { time = c.args.until; event = c.args.process } ∷ [])) c.self.view_is
    (slept_sleepers (g.Q.EventQueue.bag c.self.inside.queue) (g.Q.EventQueue.bag c.schedule.new.self) c.args.until c.args.process c.in_default.ensures.added)
