use Rattle.std.proofs.Common.{◌≡◌, ◌++◌, map, drop}
use Rattle.vs_drivers.specs.declared.writers.Written.{Written}
use Rattle.vs_rules_of_signals.proofs.order.ranges_of.Given as goal

abbrev pub invariant-loop-written : goal.invariant-loop-written
invariant-loop-written l = l.ranges.items ++ map (λ (w : Written). w.range) (drop l.written-index l.row) ≡ map (λ (w : Written). w.range) l.row
