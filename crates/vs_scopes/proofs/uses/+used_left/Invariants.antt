use Rattle.std.proofs.Common.{◌≡◌, ◌++◌, take}
use Rattle.vs_scopes.specs.Reads.{read_names}
use Rattle.vs_scopes.specs.pieces_passes.Parts.{lefts_names}
use Rattle.vs_scopes.proofs.uses.+used_left.Given as goal

abbrev pub invariant-add_lefts-loop-left : goal.invariant-add_lefts-loop-left
invariant-add_lefts-loop-left l = read_names l.names.items ≡ read_names l.fn.names.items ++ lefts_names (take l.left-index l.all)
