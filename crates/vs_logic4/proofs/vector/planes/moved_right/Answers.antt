use Rattle.vs_logic4.proofs.Moves.{all_moved_right}
use Rattle.vs_logic4.proofs.vector.planes.moved_right.Goals as goal

pub returns-else-places-lt64 : goal.returns-else-places-lt64
returns-else-places-lt64 c =
    all_moved_right c.args.plane c.args.places c.if-places-lt64.false c.ranges.plane.fits
