use Rattle.std.proofs.Common.{ℕ, List, [], ◌∷◌, map, arith}
use Rattle.vs_scopes.specs.Pieces.{NamedBlock}
use Rattle.vs_scopes.specs.declared.blocks.NamedBlock.{NamedBlock as FoundBlock}
use Rattle.vs_scopes.specs.Reads.{read_block}
use Rattle.vs_scopes.specs.vs_widths.specs.declared.bindings.Binding.TheVariants.{Other}
use Rattle.vs_scopes.specs.Declarations.{bound_to}
use Rattle.vs_scopes.proofs.PassLemmas.{maps_three}
use Rattle.vs_scopes.proofs.DeclaredLemmas.{adds_step}
use Rattle.vs_elab_constants.proofs.early.add_blocks.Goals as goal

pub loop-block-preserved : goal.loop-block-preserved
loop-block-preserved c =
    adds_step c.args.names.now c.loop-block.names c.add_first.new.names c.args.blocks.now c.loop-block.block-index c.block-item.result (λ (xs : List FoundBlock). bound_to Other (map (λ (b : NamedBlock). b.name) (map read_block xs))) ((c.block-item.result.name.now, Other) ∷ []) (omega arith) c.block-item.is
    (maps_three read_block (λ (b : NamedBlock). b.name) (λ (m : List ℕ). (m, Other)) c.block-item.result) c.loop-block.invariant c.in_ok-add_first.ensures
