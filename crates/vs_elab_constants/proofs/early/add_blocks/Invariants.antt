use Rattle.std.proofs.Common.{map, take}
use Rattle.vs_scopes.specs.Pieces.{NamedBlock}
use Rattle.vs_scopes.specs.Reads.{read_block}
use Rattle.vs_scopes.specs.vs_widths.specs.declared.bindings.Binding.TheVariants.{Other}
use Rattle.vs_scopes.specs.Declarations.{bound_to}
use Rattle.vs_scopes.specs.scopes_passes.Declared.{AddsNames}
use Rattle.vs_elab_constants.proofs.early.add_blocks.Given as goal

abbrev pub invariant-loop-block : goal.invariant-loop-block
invariant-loop-block l = AddsNames l.fn.names l.names (bound_to Other (map (λ (b : NamedBlock). b.name) (map read_block (take l.block-index l.blocks))))
