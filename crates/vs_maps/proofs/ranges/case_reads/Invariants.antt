use Rattle.std.proofs.Common.{◌≡◌, ◌++◌, map, drop}
use Rattle.vs_design.specs.Uses.{joined, reads}
use Rattle.vs_rules.specs.vs_process.specs.Threads.{item_reads}
use Rattle.vs_maps.proofs.ranges.case_reads.Given as goal

abbrev pub invariant-loop-labels : goal.invariant-loop-labels
invariant-loop-labels l = l.out.items ++ joined (map item_reads (drop l.labels-index l.items)) ≡ reads l.selector ++ joined (map item_reads l.items)
