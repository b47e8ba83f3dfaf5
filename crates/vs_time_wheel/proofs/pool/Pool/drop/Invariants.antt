use Rattle.std.proofs.Common.{vec_len}
use Rattle.vs_time_wheel.proofs.pool.Pool.drop.Given as goal

abbrev pub decreases-loop-room : goal.decreases-loop-room
decreases-loop-room g l = vec_len l.self.spare
