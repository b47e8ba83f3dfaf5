use Rattle.std.proofs.Common.{◌≡◌, ◌++◌, map, drop}
use Rattle.vs_design.specs.Uses.{aim_reads, joined}
use Rattle.vs_design.proofs.uses.push_target_reads.Given as goal

abbrev pub invariant-loop-aim : goal.invariant-loop-aim
invariant-loop-aim l = l.out.items ++ joined (map aim_reads (drop l.aim-index l.aim-items)) ≡ l.fn.out.items ++ joined (map aim_reads l.aim-items)
