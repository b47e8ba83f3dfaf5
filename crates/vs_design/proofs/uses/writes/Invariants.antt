use Rattle.std.proofs.Common.{◌≡◌, ◌++◌, map, drop}
use Rattle.vs_design.specs.Uses.{aim_range}
use Rattle.vs_design.proofs.uses.writes.Given as goal

abbrev pub invariant-loop-aim : goal.invariant-loop-aim
invariant-loop-aim l = l.out.items ++ map aim_range (drop l.aim-index l.aim-items) ≡ map aim_range l.aim-items
