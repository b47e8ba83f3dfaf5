use Rattle.std.proofs.Common.{ℕ, ◌≡◌, ◌<◌, get_or}
use Rattle.vs_design.specs.declared.range.BitRange.{BitRange}
use Rattle.vs_drivers.specs.Wires.{driver_at}
use Rattle.vs_rules_of_signals.specs.Order.{KeepsRead}
use Rattle.vs_rules_of_signals.proofs.rule.keeps_reads.Given as goal

abbrev pub invariant-loop-range : goal.invariant-loop-range
invariant-loop-range l =
    (k : ℕ) (r : BitRange) → k < l.range-index → get_or l.read k r ≡ r → KeepsRead l.facts.design l.facts.claims (driver_at l.facts.design l.reader) r
