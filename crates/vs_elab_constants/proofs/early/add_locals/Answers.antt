use Rattle.std.proofs.Common.{List, [], ◌∷◌, None, map, arith}
use Rattle.vs_syntax.specs.declared.tree.Local.{Local}
use Rattle.vs_scopes.specs.Declarations.{DeclaredName, declared_local, signal_names}
use Rattle.vs_elab_constants.specs.passes.Early.{bound_by}
use Rattle.vs_scopes.proofs.PassLemmas.{maps_two}
use Rattle.vs_scopes.proofs.DeclaredLemmas.{adds_step, adds_all}
use Rattle.vs_elab_constants.proofs.early.add_locals.Goals as goal

pub loop-one-preserved : goal.loop-one-preserved
loop-one-preserved c z =
    adds_step c.args.names.now c.loop-one.names c.add_first.new.names c.args.locals.now c.loop-one.one-index c.one-item.result (λ (ds : List Local). signal_names (bound_by c.args.signals) (map (declared_local (λ n. None) c.args.kind z) ds)) ((c.one-item.result.name.items, bound_by c.args.signals c.args.kind) ∷ []) (omega arith) c.one-item.is
    (maps_two (declared_local (λ n. None) c.args.kind z) (λ (d : DeclaredName). (d.name, bound_by c.args.signals d.kind)) c.one-item.result) (c.loop-one.invariant z) (rw (c.signal_binding.ensures, c.deref.ensures.value) at c.in_ok-add_first.ensures)

pub returns : goal.returns
returns c z =
    adds_all c.args.names.now c.loop-one.names c.args.locals.now c.loop-one.one-index (λ (ds : List Local). signal_names (bound_by c.args.signals) (map (declared_local (λ n. None) c.args.kind z) ds)) (omega arith) (c.loop-one.invariant z)
