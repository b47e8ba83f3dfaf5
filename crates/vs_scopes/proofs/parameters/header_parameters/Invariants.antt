use Rattle.std.proofs.Common.{◌≡◌, ◌++◌, None, map, drop}
use Rattle.vs_scopes.specs.Overrides.{header_parameters}
use Rattle.vs_scopes.specs.passes.Ends.{read_end, read_parameter}
use Rattle.vs_scopes.proofs.parameters.header_parameters.Given as goal

abbrev pub invariant-loop-parameter : goal.invariant-loop-parameter
invariant-loop-parameter l = map read_parameter l.list.items ++ header_parameters (read_end l.before) (drop l.parameter-index l.header) ≡ header_parameters None l.header
