use Rattle.std.proofs.Common.{ℕ, map, take}
use Rattle.std.specs.declared.vec.Vec.{Vec}
use Rattle.std.specs.declared.alloc.Global.{Global}
use Rattle.vs_scopes.specs.scopes_passes.Declared.{AddsNames}
use Rattle.vs_elab_signals.specs.signal_passes.Sights.{placed}
use Rattle.vs_elab_signals.proofs.sights.add_names.Given as goal

abbrev pub invariant-loop-name : goal.invariant-loop-name
invariant-loop-name l = AddsNames l.fn.told l.told (placed l.place (map (λ (n : Vec ℕ Global). n.items) (take l.name-index l.list)))
