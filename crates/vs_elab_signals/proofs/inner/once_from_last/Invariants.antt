use Rattle.std.proofs.Common.{◌-◌, length, drop}
use Rattle.vs_scopes.specs.scopes_passes.Answers.{borrowed}
use Rattle.vs_elab_signals.specs.signal_passes.Naming.{KeepsOnce}
use Rattle.vs_elab_signals.proofs.inner.once_from_last.Given as goal

abbrev pub invariant-loop-step : goal.invariant-loop-step
invariant-loop-step l = KeepsOnce (borrowed (drop (length l.list - l.step) l.list)) l.there (borrowed l.kept.items)
