use Rattle.std.proofs.Common.{◌≡◌, ◌++◌, map, drop}
use Rattle.vs_elab_signals.specs.vs_scopes.specs.Pieces.{NamedBlock}
use Rattle.vs_elab_signals.specs.vs_scopes.specs.Reads.{read_block}
use Rattle.vs_scopes.specs.scopes_passes.Answers.{borrowed}
use Rattle.vs_elab_signals.proofs.inner.add_blocks.Given as goal

abbrev pub invariant-loop-block : goal.invariant-loop-block
invariant-loop-block l =
    borrowed l.names.items ++ map (λ (b : NamedBlock). b.name) (map read_block (drop l.block-index l.blocks)) ≡ borrowed l.fn.names.items ++ map (λ (b : NamedBlock). b.name) (map read_block l.blocks)
