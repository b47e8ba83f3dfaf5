use Rattle.std.proofs.Common.{refl, ap, map, arith}
use Rattle.std.proofs.lemmas.List.{drop_all}
use Rattle.vs_elab_signals.specs.vs_scopes.specs.Pieces.{NamedBlock}
use Rattle.vs_elab_signals.specs.vs_scopes.specs.Reads.{read_block}
use Rattle.vs_scopes.proofs.PassLemmas.{moved, ended}
use Rattle.vs_design.specs.vs_logic4.proofs.Basics.{front_of as drop_at}
use Rattle.vs_elab_signals.proofs.inner.add_blocks.Goals as goal

pub loop-block-preserved : goal.loop-block-preserved
loop-block-preserved c =
    let b = c.block-item.result in
    moved (λ n. n.now) c.loop-block.names.items c.push.new.self.items b.name b.name.now _ _ _ c.in_ok-push.ensures.items refl
    (ap (λ z. map (λ (b : NamedBlock). b.name) (map read_block z)) (drop_at c.args.blocks.now c.loop-block.block-index b (omega arith) c.block-item.is)) c.loop-block.invariant

pub returns : goal.returns
returns c = ended _ _ _ (ap (λ z. map (λ (b : NamedBlock). b.name) (map read_block z)) (drop_all c.loop-block.block-index c.args.blocks.now (omega arith))) c.loop-block.invariant
