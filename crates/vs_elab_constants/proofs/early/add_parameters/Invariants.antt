use Rattle.std.proofs.Common.{map, take}
use Rattle.vs_scopes.specs.Declarations.{pending_names}
use Rattle.vs_scopes.specs.scopes_passes.Parts.{read_parameter}
use Rattle.vs_scopes.specs.scopes_passes.Declared.{AddsNames}
use Rattle.vs_elab_constants.proofs.early.add_parameters.Given as goal

abbrev pub invariant-loop-parameter : goal.invariant-loop-parameter
invariant-loop-parameter l = AddsNames l.fn.names l.names (pending_names (map read_parameter (take l.parameter-index l.parameters)))
