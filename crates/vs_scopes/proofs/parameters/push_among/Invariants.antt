use Rattle.std.proofs.Common.{◌≡◌, ◌++◌, map, drop}
use Rattle.vs_scopes.specs.Reads.{read_piece}
use Rattle.vs_scopes.specs.Overrides.{parameters_among}
use Rattle.vs_scopes.specs.passes.Ends.{read_parameter}
use Rattle.vs_scopes.proofs.parameters.push_among.Given as goal

abbrev pub invariant-loop-piece : goal.invariant-loop-piece
invariant-loop-piece l = map read_parameter l.list.items ++ parameters_among (map read_piece (drop l.piece-index l.pieces)) ≡ map read_parameter l.fn.list.items ++ parameters_among (map read_piece l.pieces)
