use Rattle.vs_logic4.proofs.Moves.{moved_left_within}
use Rattle.vs_logic4.proofs.vector.planes.left_within.Goals as goal

pub returns : goal.returns
returns c =
    rw (c.moved_left.ensures, c.low_ones.ensures)
    (moved_left_within c.args.width c.args.places c.args.plane c.requires.most)
