use Rattle.std.proofs.Common.{◌↔◌}
use Rattle.std.specs.List.{Contains}
use Rattle.vs_design.specs.declared.range.BitRange.{BitRange}
use Rattle.vs_rules_of_processes.proofs.HungLemmas.{NeedsBelow}
use Rattle.vs_rules_of_processes.proofs.hung.all_needs.Given as goal

abbrev pub invariant-loop-i : goal.invariant-loop-i
invariant-loop-i l = (r : BitRange) → (Contains l.all.items r ↔ NeedsBelow l.facts l.i r)
