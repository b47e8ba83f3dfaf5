use Rattle.std.proofs.Common.{ℕ, List, [], ◌∷◌, map, arith}
use Rattle.std.specs.declared.vec.Vec.{Vec}
use Rattle.std.specs.declared.alloc.Global.{Global}
use Rattle.vs_scopes.specs.vs_widths.specs.declared.bindings.Binding.TheVariants.{Genvar}
use Rattle.vs_scopes.specs.Declarations.{bound_to}
use Rattle.vs_scopes.proofs.PassLemmas.{maps_two}
use Rattle.vs_scopes.proofs.DeclaredLemmas.{adds_step}
use Rattle.vs_elab_constants.proofs.early.add_genvar_names.Goals as goal

pub loop-name-preserved : goal.loop-name-preserved
loop-name-preserved c =
    adds_step c.args.names.now c.loop-name.names c.add_first.new.names c.args.list.now c.loop-name.name-index c.name-item.result (λ (xs : List (Vec ℕ Global)). bound_to Genvar (map (λ (n : Vec ℕ Global). n.items) xs)) ((c.name-item.result.items, Genvar) ∷ []) (omega arith) c.name-item.is
    (maps_two (λ (n : Vec ℕ Global). n.items) (λ (n : List ℕ). (n, Genvar)) c.name-item.result) c.loop-name.invariant (rw c.deref.ensures.value at c.in_ok-add_first.ensures)
