use Rattle.std.proofs.Common.{arith}
use Rattle.vs_elab_hierarchy.proofs.BlockLemmas.{indexed_none, index_place}
use Rattle.vs_elab_hierarchy.proofs.TopLemmas.{indexed_more, indexed_all}
use Rattle.vs_elab_hierarchy.proofs.source.index_all.Goals as goal

pub loop-place-init : goal.loop-place-init
loop-place-init c = indexed_none c.args.list.now c.requires.none

pub index_one-requires : goal.index_one-requires
index_one-requires c = index_place c.args.list.now c.loop-place.place c.loop-place.place c.loop-place.list c.loop-place.invariant c.requires.places (omega arith)

pub loop-place-preserved : goal.loop-place-preserved
loop-place-preserved c = indexed_more c.args.list.now c.loop-place.list _ c.loop-place.place c.in_ok-index_one.ensures c.loop-place.invariant

pub returns : goal.returns
returns c = indexed_all c.args.list.now c.loop-place.list c.loop-place.place (omega arith) c.loop-place.invariant
