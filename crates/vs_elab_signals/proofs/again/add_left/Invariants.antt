use Rattle.std.proofs.Common.{ℕ, List, map, take}
use Rattle.std.specs.declared.vec.Vec.{Vec}
use Rattle.std.specs.declared.alloc.Global.{Global}
use Rattle.vs_scopes.specs.scopes_passes.Answers.{borrowed}
use Rattle.vs_elab_signals.specs.passes.Counting.{Counts, Leaves}
use Rattle.vs_elab_signals.proofs.again.add_left.Given as goal

abbrev pub invariant-loop-name : goal.invariant-loop-name
invariant-loop-name l = (ns : List (List ℕ)) → Counts ns l.fn.counts → Leaves ns (map (λ (n : Vec ℕ Global). n.items) (take l.name-index l.list)) (borrowed l.fn.again.items) (borrowed l.again.items) l.counts
