use Rattle.std.proofs.Common.{◌≡◌, ◌++◌, map, drop}
use Rattle.vs_design.specs.Uses.{joined, reads}
use Rattle.vs_maps.proofs.ranges.push_label_reads.Given as goal

abbrev pub invariant-loop-e : goal.invariant-loop-e
invariant-loop-e l = l.out.items ++ joined (map reads (drop l.e-index l.labels)) ≡ l.fn.out.items ++ joined (map reads l.labels)
