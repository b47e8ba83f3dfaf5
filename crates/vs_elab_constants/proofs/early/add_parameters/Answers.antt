use Rattle.std.proofs.Common.{List, [], ◌∷◌, map, arith}
use Rattle.vs_scopes.specs.vs_widths.specs.declared.bindings.Binding.TheVariants.{Pending}
use Rattle.vs_scopes.specs.declared.parameters.Parameter.{Parameter as FoundParameter}
use Rattle.vs_scopes.specs.Parameters.{Parameter}
use Rattle.vs_scopes.specs.Declarations.{pending_names}
use Rattle.vs_scopes.specs.scopes_passes.Parts.{read_parameter}
use Rattle.vs_scopes.proofs.PassLemmas.{maps_two}
use Rattle.vs_scopes.proofs.DeclaredLemmas.{adds_step}
use Rattle.vs_elab_constants.proofs.early.add_parameters.Goals as goal

pub loop-parameter-preserved : goal.loop-parameter-preserved
loop-parameter-preserved c =
    adds_step c.args.names.now c.loop-parameter.names c.add_first.new.names c.args.parameters.now c.loop-parameter.parameter-index c.parameter-item.result (λ (xs : List FoundParameter). pending_names (map read_parameter xs)) ((c.parameter-item.result.name.now, Pending) ∷ []) (omega arith) c.parameter-item.is
    (maps_two read_parameter (λ (p : Parameter). (p.name, Pending)) c.parameter-item.result) c.loop-parameter.invariant c.in_ok-add_first.ensures
