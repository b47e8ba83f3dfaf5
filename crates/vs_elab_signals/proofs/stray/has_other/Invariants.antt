use Rattle.std.proofs.Common.{◌≡◌, ℕ, List, map, drop}
use Rattle.std.specs.declared.vec.Vec.{Vec}
use Rattle.std.specs.declared.alloc.Global.{Global}
use Rattle.vs_scopes.specs.scopes_passes.Parts.{IsSet}
use Rattle.vs_elab_signals.specs.passes.Strays.{has_other_name}
use Rattle.vs_elab_signals.proofs.stray.has_other.Given as goal

abbrev pub invariant-loop-name : goal.invariant-loop-name
invariant-loop-name l =
    (ns : List (List ℕ)) → IsSet ns l.set → has_other_name ns (map (λ (n : Vec ℕ Global). n.items) l.list) ≡ has_other_name ns (map (λ (n : Vec ℕ Global). n.items) (drop l.name-index l.list))
