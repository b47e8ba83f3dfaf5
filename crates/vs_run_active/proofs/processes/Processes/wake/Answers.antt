use Rattle.std.proofs.Common.{◌∙◌, Bool, if◌then◌else◌, sym, ap}
use Rattle.vs_run_active.specs.ProcessPlaces.{gone_on, triggered_at}
use Rattle.vs_run_active.proofs.LeftLemmas.{changed_none, changed_stays}
use Rattle.vs_run_active.proofs.processes.Processes.wake.Goals as goal
use Rattle.vs_run_active.proofs.ChangedLemmas.{changed_there as changed_put}

pub returns-in_default : goal.returns-in_default
returns-in_default c = changed_none (triggered_at c.args.control) c.args.self.now c.args.process c.in_default.ensures

pub returns-then-not-waits_at : goal.returns-then-not-waits_at
returns-then-not-waits_at c =
    changed_stays (triggered_at c.args.control) c.args.self.now c.args.process c.in-Some.x.now c.in-Some.ensures
    (sym (ap (λ (b : Bool). if b then gone_on c.in-Some.x.now else c.in-Some.x.now) (sym c.waits_at.ensures ∙ c.if-not-waits_at.true)))

pub returns : goal.returns
returns c = c.put.ensures ∙ changed_put (triggered_at c.args.control) c.args.self.now c.args.process c.in-Some.x.now c.trigger-active.new.self c.in-Some.ensures c.trigger-active.ensures.new
