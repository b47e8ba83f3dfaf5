use Rattle.std.proofs.Common.{[], arith}
use Rattle.vs_elab_signals.proofs.SightLemmas.{told_step}
use Rattle.vs_elab_signals.proofs.sights.declared_places.Goals as goal

pub loop-place-preserved : goal.loop-place-preserved
loop-place-preserved c =
    told_step c.args.pieces.now c.loop-place.place c.index-pieces-place.result [] c.loop-place.names c.add_piece.new.told (omega arith) c.index-pieces-place.is c.loop-place.invariant c.in_ok-add_piece.ensures
