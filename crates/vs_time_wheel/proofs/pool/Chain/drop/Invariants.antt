use Rattle.std.proofs.Common.{length}
use Rattle.vs_time_wheel.proofs.pool.Chain.drop.Given as goal

abbrev pub decreases-loop-room : goal.decreases-loop-room
decreases-loop-room g l = length l.self
