use Rattle.std.proofs.Common.{◌≡◌, ◌++◌, map, drop}
use Rattle.vs_scopes.specs.Overrides.{overridable}
use Rattle.vs_scopes.specs.passes.Ends.{borrowed, read_parameter}
use Rattle.vs_scopes.proofs.parameters.overridable_names.Given as goal

abbrev pub invariant-loop-parameter : goal.invariant-loop-parameter
invariant-loop-parameter l = borrowed l.names.items ++ overridable (map read_parameter (drop l.parameter-index l.parameters)) ≡ overridable (map read_parameter l.parameters)
