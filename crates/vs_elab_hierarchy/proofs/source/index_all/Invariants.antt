use Rattle.vs_elab_hierarchy.specs.passes.Blocks.{AreIndexedUpTo}
use Rattle.vs_elab_hierarchy.proofs.source.index_all.Given as goal

abbrev pub invariant-loop-place : goal.invariant-loop-place
invariant-loop-place l = AreIndexedUpTo l.fn.list l.place l.list
