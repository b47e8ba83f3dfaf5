use Rattle.std.proofs.Common.{◌≡◌, ◌∙◌, sym, ap, subst, false}
use Rattle.std.specs.List.{list_any}
use Rattle.vs_time_wheel.specs.Bag.{least_time}
use Rattle.vs_process.specs.Executions.{next_update}
use Rattle.vs_process.specs.States.{is_due}
use Rattle.vs_run_regions.specs.Active.{is_active}
use Rattle.vs_run_regions.specs.Regions.{Waiting}
use Rattle.vs_run_regions.proofs.TimesLemmas.{least_waits}
use Rattle.vs_run_regions.proofs.regions.Regions.next_time.Goals as goal

pub returns-clause-least : goal.returns-clause-least
returns-clause-least g c =
    let idle = subst (λ (w : Waiting). list_any is_active w.updates ≡ false) (sym c.self.view_is) c.requires.idle in
    let done = subst (λ (w : Waiting). list_any (is_due w.time) w.updates ≡ false) (sym c.self.view_is) c.requires.done in
    c.next_time.ensures.least
    ∙ least_waits c.self.inside.updates.items _ _ (g.Q.EventQueue.bag c.self.inside.queue) (g.Q.EventQueue.clock c.self.inside.queue) c.self.invariant.kept idle done
    ∙ ap (λ (w : Waiting). next_update (least_time w.sleepers) w.updates) c.self.view_is
