use Rattle.std.proofs.Common.{◌≡◌, ◌++◌, map, drop}
use Rattle.vs_scopes.specs.Reads.{read_block}
use Rattle.vs_scopes.specs.Generate.{named}
use Rattle.vs_elab_constants.specs.Reads.{read_inners}
use Rattle.vs_elab_constants.proofs.opening.add_named.Given as goal

abbrev pub invariant-loop-block : goal.invariant-loop-block
invariant-loop-block l = read_inners l.inners.items ++ map named (map read_block (drop l.block-index l.blocks)) ≡ read_inners l.fn.inners.items ++ map named (map read_block l.blocks)
