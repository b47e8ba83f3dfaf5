use Rattle.std.proofs.Common.{ℕ, map, take}
use Rattle.std.specs.declared.alloc.Global.{Global}
use Rattle.std.specs.declared.vec.Vec.{Vec}
use Rattle.vs_kernel.specs.Starting.{AreCounted}
use Rattle.vs_kernel.proofs.start.counters_of.Given as goal

abbrev pub invariant-loop-script : goal.invariant-loop-script
invariant-loop-script l = AreCounted (take l.script-index l.scripts) (map (λ (c : Vec ℕ Global). c.items) l.counters.items)
