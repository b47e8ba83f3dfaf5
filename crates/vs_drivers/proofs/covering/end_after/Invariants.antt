use Rattle.std.proofs.Common.{ℕ, ◌≡◌, ◌<◌, false, get_or}
use Rattle.vs_design.specs.declared.range.BitRange.{BitRange}
use Rattle.vs_design.specs.Uses.{covers}
use Rattle.vs_drivers.proofs.covering.end_after.Given as goal

-- none of the first ranges has the bit
abbrev pub invariant-loop-range : goal.invariant-loop-range
invariant-loop-range l =
    (k : ℕ) (q : BitRange) → k < l.range-index → get_or l.ranges k q ≡ q → covers l.signal l.word l.place q ≡ false
