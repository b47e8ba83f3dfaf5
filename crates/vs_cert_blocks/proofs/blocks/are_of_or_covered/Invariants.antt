use Rattle.std.proofs.Common.{ℕ, ◌≡◌, ◌<◌, ◌⊎◌, get_or}
use Rattle.std.specs.List.{Contains}
use Rattle.vs_design.specs.declared.range.BitRange.{BitRange}
use Rattle.vs_drivers.specs.Ranges.{Cover}
use Rattle.vs_cert_blocks.proofs.blocks.are_of_or_covered.Given as goal

abbrev pub invariant-loop-range : goal.invariant-loop-range
invariant-loop-range l =
    (k : ℕ) (r : BitRange) → k < l.range-index → get_or l.read k r ≡ r → Contains l.signals r.signal ⊎ Cover l.design l.named r
