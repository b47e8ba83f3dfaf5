use Rattle.std.proofs.Common.{◌≡◌, ◌++◌, take}
use Rattle.std.specs.List.{flat_map}
use Rattle.vs_scopes.specs.Reads.{read_names}
use Rattle.vs_scopes.specs.Uses.{end_names}
use Rattle.vs_scopes.proofs.uses.add_ends.Given as goal

abbrev pub invariant-loop-end : goal.invariant-loop-end
invariant-loop-end l = read_names l.names.items ≡ read_names l.fn.names.items ++ flat_map end_names (take l.end-index l.ends)
