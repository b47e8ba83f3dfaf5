use Rattle.std.proofs.Common.{◌≡◌, ◌++◌, map, drop}
use Rattle.vs_scopes.specs.Overrides.{item_parameter}
use Rattle.vs_scopes.specs.passes.Ends.{read_parameter}
use Rattle.vs_scopes.proofs.parameters.push_constants.Given as goal

abbrev pub invariant-loop-constant : goal.invariant-loop-constant
invariant-loop-constant l = map read_parameter l.list.items ++ map (item_parameter l.fixed l.form) (drop l.constant-index l.constants) ≡ map read_parameter l.fn.list.items ++ map (item_parameter l.fixed l.form) l.constants
