use Rattle.std.proofs.Common.{◌≡◌, ◌++◌, map, drop}
use Rattle.vs_drivers.proofs.names.push_ranges.Given as goal

abbrev pub invariant-loop-term : goal.invariant-loop-term
invariant-loop-term l = l.out.items ++ map (λ t. t.range) (drop l.term-index l.terms) ≡ l.fn.out.items ++ map (λ t. t.range) l.terms
