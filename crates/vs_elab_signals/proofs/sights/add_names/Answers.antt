use Rattle.std.proofs.Common.{ℕ, List, [], ◌∷◌, map, arith}
use Rattle.std.specs.declared.vec.Vec.{Vec}
use Rattle.std.specs.declared.alloc.Global.{Global}
use Rattle.vs_scopes.proofs.PassLemmas.{maps_two}
use Rattle.vs_scopes.proofs.DeclaredLemmas.{adds_step}
use Rattle.vs_elab_signals.specs.signal_passes.Sights.{placed}
use Rattle.vs_elab_signals.proofs.sights.add_names.Goals as goal

pub loop-name-preserved : goal.loop-name-preserved
loop-name-preserved c =
    adds_step c.args.told.now c.loop-name.told c.add_first.new.names c.args.list.now c.loop-name.name-index c.name-item.result (λ (xs : List (Vec ℕ Global)). placed c.args.place (map (λ (n : Vec ℕ Global). n.items) xs)) ((c.name-item.result.items, c.args.place) ∷ []) (omega arith) c.name-item.is
    (maps_two (λ (n : Vec ℕ Global). n.items) (λ (n : List ℕ). (n, c.args.place)) c.name-item.result) c.loop-name.invariant (rw c.deref.ensures.value at c.in_ok-add_first.ensures)
