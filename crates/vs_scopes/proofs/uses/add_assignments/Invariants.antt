use Rattle.std.proofs.Common.{◌≡◌, ◌++◌, take}
use Rattle.std.specs.List.{flat_map}
use Rattle.vs_scopes.specs.Reads.{read_names}
use Rattle.vs_scopes.specs.Uses.{assignment_names}
use Rattle.vs_scopes.proofs.uses.add_assignments.Given as goal

abbrev pub invariant-loop-one : goal.invariant-loop-one
invariant-loop-one l = read_names l.names.items ≡ read_names l.fn.names.items ++ flat_map assignment_names (take l.one-index l.list)
