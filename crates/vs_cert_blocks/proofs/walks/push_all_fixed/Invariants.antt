use Rattle.std.proofs.Common.{◌≡◌, ◌++◌, map, drop}
use Rattle.vs_design.specs.Uses.{joined}
use Rattle.vs_cert_blocks.specs.Walks.{fixed_range}
use Rattle.vs_cert_blocks.proofs.walks.push_all_fixed.Given as goal

abbrev pub invariant-loop-aim : goal.invariant-loop-aim
invariant-loop-aim l = l.out.items ++ joined (map fixed_range (drop l.aim-index l.aims)) ≡ l.fn.out.items ++ joined (map fixed_range l.aims)
