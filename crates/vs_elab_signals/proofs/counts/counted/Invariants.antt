use Rattle.std.proofs.Common.{take}
use Rattle.vs_scopes.specs.scopes_passes.Answers.{borrowed}
use Rattle.vs_elab_signals.specs.passes.Counting.{Counts}
use Rattle.vs_elab_signals.proofs.counts.counted.Given as goal

abbrev pub invariant-loop-name : goal.invariant-loop-name
invariant-loop-name l = Counts (borrowed (take l.name-index l.names)) l.counts
