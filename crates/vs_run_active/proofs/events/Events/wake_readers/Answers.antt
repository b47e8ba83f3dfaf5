use Rattle.std.proofs.Common.{List, sym, ap, ◌∙◌}
use Rattle.std.proofs.lemmas.List.{drop_all}
use Rattle.vs_run_active.specs.declared.watchers.Watcher.{Watcher}
use Rattle.vs_run_active.specs.Groups.{meaning, spelled}
use Rattle.vs_run_active.specs.Wakes.{has_one, woken_watched}
use Rattle.vs_run_active.proofs.WakesLemmas.{spelled_more}
use Rattle.vs_run_active.proofs.events.Events.wake_readers.Goals as goal

pub loop-watcher-preserved : goal.loop-watcher-preserved
loop-watcher-preserved c = record {
  assigns = spelled_more (has_one c.args.word c.args.bits) (meaning c.args.groups.now) c.args.watchers.now c.loop-watcher.watcher-index _ c.loop-watcher.self.assigns _ _
      c.loop-watcher-test.true c.in_ok-wake_reader.ensures.assigns c.loop-watcher.invariant.assigns;
  processes = c.wake_reader.ensures.processes ∙ c.loop-watcher.invariant.processes;
}

pub returns-clause-assigns : goal.returns-clause-assigns
returns-clause-assigns c =
    sym (ap (λ (l : List Watcher). woken_watched (has_one c.args.word c.args.bits) (spelled (meaning c.args.groups.now) l) c.loop-watcher.self.assigns)
    (drop_all c.loop-watcher.watcher-index c.args.watchers.now c.loop-watcher-test.false))
    ∙ c.loop-watcher.invariant.assigns
