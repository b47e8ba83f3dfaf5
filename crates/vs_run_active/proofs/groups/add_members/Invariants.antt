use Rattle.std.proofs.Common.{◌≡◌, ◌++◌, map, drop}
use Rattle.vs_run_active.specs.declared.watchers.Watcher.{Watcher}
use Rattle.vs_run_active.proofs.groups.add_members.Given as goal

abbrev pub invariant-loop-watcher : goal.invariant-loop-watcher
invariant-loop-watcher l =
    l.members.items ++ map (λ (w : Watcher). w.number) (drop l.watcher-index l.watchers) ≡ l.fn.members.items ++ map (λ (w : Watcher). w.number) l.watchers
