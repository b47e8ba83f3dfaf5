use Rattle.std.proofs.Common.{[], ◌∷◌, refl}
use Rattle.vs_process.proofs.SpotLemmas.{spot_written}
use Rattle.vs_process.proofs.spots.spot_of_part.Goals as goal

pub returns-clause-write : goal.returns-clause-write
returns-clause-write c =
    spot_written (c.args.part.now ∷ []) c.args.part.now c.in_ok-spot.spot refl c.in_ok-spot.ensures.low c.in_ok-spot.ensures.signal c.in_ok-spot.ensures.word
