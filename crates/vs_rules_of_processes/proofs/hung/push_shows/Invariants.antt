use Rattle.std.proofs.Common.{◌⊎◌, ◌↔◌}
use Rattle.std.specs.List.{Contains}
use Rattle.vs_design.specs.declared.range.BitRange.{BitRange}
use Rattle.vs_rules_of_processes.proofs.HungLemmas.{ShowsBelow}
use Rattle.vs_rules_of_processes.proofs.hung.push_shows.Given as goal

abbrev pub invariant-loop-p : goal.invariant-loop-p
invariant-loop-p l = (r : BitRange) → (Contains l.out.items r ↔ (Contains l.fn.out.items r ⊎ ShowsBelow l.tables l.p r))
