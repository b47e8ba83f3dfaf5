use Rattle.std.proofs.Common.{List, [], ◌∷◌, None, arith}
use Rattle.vs_syntax.specs.declared.tree.Declarator.{Declarator}
use Rattle.vs_scopes.specs.Declarations.{DeclaredName, declared_as, declared_by, signal_names}
use Rattle.vs_elab_constants.specs.passes.Early.{bound_by}
use Rattle.vs_scopes.proofs.PassLemmas.{maps_two}
use Rattle.vs_scopes.proofs.DeclaredLemmas.{adds_step, adds_all}
use Rattle.vs_elab_constants.proofs.early.add_declarators.Goals as goal

pub loop-declarator-preserved : goal.loop-declarator-preserved
loop-declarator-preserved c z =
    adds_step c.args.names.now c.loop-declarator.names c.add_first.new.names c.args.declarators.now c.loop-declarator.declarator-index c.declarator-item.result (λ (ds : List Declarator). signal_names (bound_by c.args.signals) (declared_as (λ n. None) c.args.kind z ds)) ((c.declarator-item.result.name.items, bound_by c.args.signals c.args.kind) ∷ []) (omega arith) c.declarator-item.is
    (maps_two (declared_by (λ n. None) c.args.kind z) (λ (d : DeclaredName). (d.name, bound_by c.args.signals d.kind)) c.declarator-item.result) (c.loop-declarator.invariant z) (rw (c.signal_binding.ensures, c.deref.ensures.value) at c.in_ok-add_first.ensures)

pub returns : goal.returns
returns c z =
    adds_all c.args.names.now c.loop-declarator.names c.args.declarators.now c.loop-declarator.declarator-index (λ (ds : List Declarator). signal_names (bound_by c.args.signals) (declared_as (λ n. None) c.args.kind z ds)) (omega arith) (c.loop-declarator.invariant z)
