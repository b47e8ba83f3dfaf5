use Rattle.std.proofs.Common.{ℕ, List, sym, ap, ◌∙◌}
use Rattle.std.proofs.lemmas.List.{drop_all}
use Rattle.vs_run_active.specs.Wakes.{woken_all}
use Rattle.vs_run_active.proofs.WakesLemmas.{member_more}
use Rattle.vs_run_active.proofs.events.Events.wake_each_member.Goals as goal

pub loop-assign-preserved : goal.loop-assign-preserved
loop-assign-preserved c = record {
  assigns = member_more c.args.members.now c.loop-assign.assign-index _ c.loop-assign.self.assigns _ _ c.loop-assign-test.true c.wake_assign.ensures.assigns c.loop-assign.invariant.assigns;
  processes = c.wake_assign.ensures.processes ∙ c.loop-assign.invariant.processes;
}

pub returns-clause-assigns : goal.returns-clause-assigns
returns-clause-assigns c =
    sym (ap (λ (l : List ℕ). woken_all l c.loop-assign.self.assigns) (drop_all c.loop-assign.assign-index c.args.members.now c.loop-assign-test.false))
    ∙ c.loop-assign.invariant.assigns
