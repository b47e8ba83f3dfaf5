use Rattle.std.proofs.Common.{◌≡◌, ℕ, ◌++◌, map, drop}
use Rattle.std.specs.declared.vec.Vec.{Vec}
use Rattle.std.specs.declared.alloc.Global.{Global}
use Rattle.vs_scopes.specs.scopes_passes.Answers.{borrowed}
use Rattle.vs_elab_signals.proofs.inner.add_names.Given as goal

abbrev pub invariant-loop-name : goal.invariant-loop-name
invariant-loop-name l =
    borrowed l.names.items ++ map (λ (n : Vec ℕ Global). n.items) (drop l.name-index l.list) ≡ borrowed l.fn.names.items ++ map (λ (n : Vec ℕ Global). n.items) l.list
