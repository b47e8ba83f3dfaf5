use Rattle.vs_logic4.proofs.Moves.{all_moved_left}
use Rattle.vs_logic4.proofs.vector.planes.moved_left.Goals as goal

pub returns-else-places-lt64 : goal.returns-else-places-lt64
returns-else-places-lt64 c = all_moved_left c.args.plane c.args.places c.if-places-lt64.false
