use Rattle.std.proofs.Common.{take}
use Rattle.vs_run_active.specs.Groups.{AreLike}
use Rattle.vs_run_active.proofs.groups.like_it.Given as goal

abbrev pub invariant-loop-n : goal.invariant-loop-n
invariant-loop-n l = AreLike l.first (take l.n l.rest)
