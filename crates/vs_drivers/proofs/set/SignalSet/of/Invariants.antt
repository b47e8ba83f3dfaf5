use Rattle.std.proofs.Common.{ℕ, ◌↔◌, take}
use Rattle.std.specs.List.{Contains}
use Rattle.vs_drivers.proofs.set.SignalSet.of.Given as goal

abbrev pub invariant-loop-signal : goal.invariant-loop-signal
invariant-loop-signal l = (v : ℕ) → (Contains l.set v ↔ Contains (take l.signal-index l.signals) v)
