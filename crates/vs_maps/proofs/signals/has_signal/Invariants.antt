use Rattle.std.proofs.Common.{ℕ, ◌≡◌, ◌<◌, get_or}
use Rattle.vs_design.specs.declared.range.BitRange.{BitRange}
use Rattle.vs_maps.proofs.signals.has_signal.Given as goal

abbrev pub invariant-loop-range : goal.invariant-loop-range
invariant-loop-range l = (k : ℕ) (q : BitRange) → k < l.range-index → get_or l.ranges k q ≡ q → q.signal ≡ l.signal → ⊥
