use Rattle.std.proofs.Common.{◌≡◌, ◌++◌, map, take}
use Rattle.vs_scopes.specs.Pieces.{inside}
use Rattle.vs_scopes.specs.Reads.{read_block, read_piece}
use Rattle.vs_scopes.proofs.scope.add_inside.Given as goal

abbrev pub invariant-loop-block : goal.invariant-loop-block
invariant-loop-block l = map read_piece l.pieces.items ≡ map read_piece l.fn.pieces.items ++ map inside (map read_block (take l.block-index l.blocks))
