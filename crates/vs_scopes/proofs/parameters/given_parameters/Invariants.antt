use Rattle.std.proofs.Common.{◌≡◌, ◌≤◌, ◌++◌, map, drop}
use Rattle.vs_scopes.specs.Overrides.{given_from}
use Rattle.vs_scopes.specs.passes.Ends.{read_parameter, read_given, read_ends}
use Rattle.vs_scopes.proofs.parameters.given_parameters.Given as goal

abbrev pub invariant-loop-parameter : goal.invariant-loop-parameter
invariant-loop-parameter l = record {
  made : map read_given l.list.items ++ given_from (map read_parameter (drop l.parameter-index l.parameters)) (drop l.place (read_ends l.ends)) ≡ given_from (map read_parameter l.parameters) (read_ends l.ends);
  below : l.place ≤ l.parameter-index;
}
