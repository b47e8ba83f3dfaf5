use Rattle.std.proofs.Common.{ℕ, List, [], ◌∷◌, map, arith}
use Rattle.vs_syntax.specs.declared.tree.Instance.{Instance}
use Rattle.vs_scopes.specs.vs_widths.specs.declared.bindings.Binding.TheVariants.{Other}
use Rattle.vs_scopes.specs.Declarations.{Use, use_of, bound_to}
use Rattle.vs_scopes.proofs.PassLemmas.{maps_three}
use Rattle.vs_scopes.proofs.DeclaredLemmas.{adds_step, adds_all}
use Rattle.vs_elab_constants.proofs.early.add_instances.Goals as goal

pub loop-instance-preserved : goal.loop-instance-preserved
loop-instance-preserved c n o =
    adds_step c.args.names.now c.loop-instance.names c.add_first.new.names c.args.instances.now c.loop-instance.instance-index c.instance-item.result (λ (xs : List Instance). bound_to Other (map (λ (u : Use). u.name) (map (use_of n o) xs))) ((c.instance-item.result.name.items, Other) ∷ []) (omega arith) c.instance-item.is
    (maps_three (use_of n o) (λ (u : Use). u.name) (λ (m : List ℕ). (m, Other)) c.instance-item.result) (c.loop-instance.invariant n o) (rw c.deref.ensures.value at c.in_ok-add_first.ensures)

pub returns : goal.returns
returns c n o =
    adds_all c.args.names.now c.loop-instance.names c.args.instances.now c.loop-instance.instance-index (λ (xs : List Instance). bound_to Other (map (λ (u : Use). u.name) (map (use_of n o) xs))) (omega arith) (c.loop-instance.invariant n o)
