use Rattle.std.proofs.Common.{take}
use Rattle.vs_design.specs.Tables.{rows}
use Rattle.vs_run_active.specs.Words.{AreSeeing}
use Rattle.vs_run_active.proofs.words.lists_of.Given as goal

abbrev pub invariant-loop-watcher : goal.invariant-loop-watcher
invariant-loop-watcher l = AreSeeing (take l.watcher-index l.watchers) (rows l.lists.items)
