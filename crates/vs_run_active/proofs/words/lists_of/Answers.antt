use Rattle.std.proofs.Common.{refl}
use Rattle.vs_design.specs.Tables.{rows}
use Rattle.vs_run_active.proofs.WordsLemmas.{seen_more}
use Rattle.vs_run_active.proofs.words.lists_of.Goals as goal

pub loop-watcher-preserved : goal.loop-watcher-preserved
loop-watcher-preserved c =
    seen_more c.args.watchers.now c.loop-watcher.watcher-index _ _ (rows c.loop-watcher.lists.items) (rows c.note.new.lists.items) c.loop-watcher-test.true refl
    c.loop-watcher.invariant c.in_ok-note.ensures
