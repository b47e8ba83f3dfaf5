use Rattle.std.proofs.Common.{◌≡◌, ◌++◌, map, take}
use Rattle.vs_scopes.specs.Pieces.{blocks_among}
use Rattle.vs_scopes.specs.Reads.{read_block}
use Rattle.vs_scopes.specs.pieces_passes.Parts.{blocks_in_items}
use Rattle.vs_scopes.proofs.blocks.+blocks.Given as goal

abbrev pub invariant-add_blocks_among-loop-s : goal.invariant-add_blocks_among-loop-s
invariant-add_blocks_among-loop-s l = map read_block l.blocks.items ≡ map read_block l.fn.blocks.items ++ blocks_among (take l.s-index l.all)

abbrev pub invariant-add_blocks_in_items-loop-s : goal.invariant-add_blocks_in_items-loop-s
invariant-add_blocks_in_items-loop-s l = map read_block l.blocks.items ≡ map read_block l.fn.blocks.items ++ blocks_in_items (take l.s-index l.items)
