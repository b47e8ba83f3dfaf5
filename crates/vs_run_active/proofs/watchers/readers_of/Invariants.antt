use Rattle.std.proofs.Common.{◌≡◌, ◌++◌, map, drop}
use Rattle.vs_run_active.specs.Watchers.{reader_watcher}
use Rattle.vs_run_active.proofs.watchers.readers_of.Given as goal

abbrev pub invariant-loop-reader : goal.invariant-loop-reader
invariant-loop-reader l = l.plain.items ++ map reader_watcher (drop l.reader-index l.readers) ≡ map reader_watcher l.readers
