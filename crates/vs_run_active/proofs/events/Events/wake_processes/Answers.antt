use Rattle.std.proofs.Common.{List, sym, ap, ◌∙◌}
use Rattle.std.proofs.lemmas.List.{drop_all}
use Rattle.vs_run_active.specs.declared.watchers.Watcher.{Watcher}
use Rattle.vs_run_active.proofs.WalksLemmas.{watcher_more}
use Rattle.vs_run_active.specs.ProcessPlaces.{gone_on}
use Rattle.vs_run_active.specs.Waiting.{waits_for}
use Rattle.vs_run_active.specs.Wakes.{has_one, walked_by}
use Rattle.vs_run_active.proofs.events.Events.wake_processes.Goals as goal

pub loop-watcher-preserved : goal.loop-watcher-preserved
loop-watcher-preserved c = record {
  processes = watcher_more waits_for gone_on (has_one c.args.word c.args.bits) c.args.watchers.now c.loop-watcher.watcher-index _ c.loop-watcher.self.processes _ _
      c.loop-watcher-test.true c.wake_waiting.ensures.processes c.loop-watcher.invariant.processes;
  assigns = c.wake_waiting.ensures.assigns ∙ c.loop-watcher.invariant.assigns;
}

pub returns-clause-processes : goal.returns-clause-processes
returns-clause-processes c =
    sym (ap (λ (l : List Watcher). walked_by c.args.word c.args.bits l c.loop-watcher.self.processes)
    (drop_all c.loop-watcher.watcher-index c.args.watchers.now c.loop-watcher-test.false))
    ∙ c.loop-watcher.invariant.processes
