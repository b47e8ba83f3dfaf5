use Rattle.std.proofs.Common.{refl}
use Rattle.vs_elab_signals.proofs.LateLemmas.{block_answers}
use Rattle.vs_elab_signals.proofs.blocks.check_one.Goals as goal

pub returns-in-Instance : goal.returns-in-Instance
returns-in-Instance c ss s a h = rw c.in-Instance.is refl

pub returns-in-Generated : goal.returns-in-Generated
returns-in-Generated c ss s a h = rw c.in-Generated.is (block_answers s _ _ _ _ c.check_block.result (c.check_block.ensures ss s a h))

pub returns-in-Named : goal.returns-in-Named
returns-in-Named c ss s a h = rw c.in-Named.is refl
