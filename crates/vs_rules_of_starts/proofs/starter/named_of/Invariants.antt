use Rattle.std.proofs.Common.{◌↔◌}
use Rattle.std.specs.List.{Contains}
use Rattle.vs_design.specs.declared.range.BitRange.{BitRange}
use Rattle.vs_rules_of_starts.proofs.StartedLemmas.{IsOfBelow}
use Rattle.vs_rules_of_starts.proofs.starter.named_of.Given as goal

abbrev pub invariant-loop-term : goal.invariant-loop-term
invariant-loop-term l = (r : BitRange) → (Contains l.named.items r ↔ IsOfBelow l.copies l.g l.terms l.term-index r)
