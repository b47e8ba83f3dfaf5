use Rattle.std.proofs.Common.{ℕ, List, [], ◌∷◌, map, arith}
use Rattle.vs_syntax.specs.declared.tree.Declarator.{Declarator}
use Rattle.vs_scopes.proofs.PassLemmas.{maps_two}
use Rattle.vs_scopes.proofs.DeclaredLemmas.{adds_step}
use Rattle.vs_elab_signals.specs.signal_passes.Sights.{placed}
use Rattle.vs_elab_signals.proofs.sights.add_declarators.Goals as goal

pub loop-declarator-preserved : goal.loop-declarator-preserved
loop-declarator-preserved c =
    adds_step c.args.told.now c.loop-declarator.told c.add_first.new.names c.args.list.now c.loop-declarator.declarator-index c.declarator-item.result (λ (xs : List Declarator). placed c.args.place (map (λ (d : Declarator). d.name.items) xs)) ((c.declarator-item.result.name.items, c.args.place) ∷ []) (omega arith) c.declarator-item.is
    (maps_two (λ (d : Declarator). d.name.items) (λ (n : List ℕ). (n, c.args.place)) c.declarator-item.result) c.loop-declarator.invariant (rw c.deref.ensures.value at c.in_ok-add_first.ensures)
