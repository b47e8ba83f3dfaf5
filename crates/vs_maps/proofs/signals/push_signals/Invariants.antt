use Rattle.std.proofs.Common.{◌≡◌, ◌++◌, map, drop}
use Rattle.vs_design.specs.declared.range.BitRange.{BitRange}
use Rattle.vs_maps.proofs.signals.push_signals.Given as goal

abbrev pub invariant-loop-r : goal.invariant-loop-r
invariant-loop-r l = l.out.items ++ map (λ (r : BitRange). r.signal) (drop l.r-index l.ranges) ≡ l.fn.out.items ++ map (λ (r : BitRange). r.signal) l.ranges
