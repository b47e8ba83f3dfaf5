use Rattle.std.proofs.Common.{◌≡◌, ◌++◌, None, map, ap, ◌∙◌}
use Rattle.vs_scopes.specs.scopes_passes.Parts.{read_parameter}
use Rattle.vs_scopes.specs.Parameters.{header_parameters, parameters_among, parameters_of}
use Rattle.vs_elab_signals.proofs.texts.module_text.Goals as goal

pub returns : goal.returns
returns c =
    let m = c.args.«module».now in
    let parameters : map read_parameter c.deref.result.now ≡ parameters_of m =
    ap (map read_parameter) c.deref.ensures.value ∙ c.in_ok-parameters.ensures ∙ ap (λ z. header_parameters None m.parameters.items ++ parameters_among z) c.requires.pieces in
    rw c.requires.pieces at (rw c.requires.ports at (rw parameters at c.early_names.ensures))
