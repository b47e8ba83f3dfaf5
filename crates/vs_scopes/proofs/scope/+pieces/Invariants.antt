use Rattle.std.proofs.Common.{◌≡◌, ◌++◌, map, take}
use Rattle.vs_scopes.specs.Pieces.{pieces_of}
use Rattle.vs_scopes.specs.Reads.{read_piece}
use Rattle.vs_scopes.proofs.scope.+pieces.Given as goal

abbrev pub invariant-add_pieces_among-loop-item : goal.invariant-add_pieces_among-loop-item
invariant-add_pieces_among-loop-item l = map read_piece l.pieces.items ≡ map read_piece l.fn.pieces.items ++ pieces_of (take l.item-index l.items)
