use Rattle.std.proofs.Common.{ℕ, ◌≡◌, ◌<◌, get_or}
use Rattle.vs_drivers.specs.declared.writers.Written.{Written}
use Rattle.vs_rules_of_signals.specs.Order.{MayRead}
use Rattle.vs_drivers.specs.Ranges.{Share}
use Rattle.vs_rules_of_signals.proofs.order.is_earlier.Given as goal

abbrev pub invariant-loop-written : goal.invariant-loop-written
invariant-loop-written l =
    (k : ℕ) (w : Written) → k < l.written-index → get_or l.row k w ≡ w → Share l.facts.design l.range w.range →
    MayRead l.facts.design l.facts.claims l.reader w.driver
