use Rattle.std.proofs.Common.{◌≤◌, length}
use Rattle.vs_preprocess.proofs.run.Run.end_of_line.Given as goal

abbrev pub invariant-loop-piece : goal.invariant-loop-piece
invariant-loop-piece l = length l.rest ≤ length l.bytes

abbrev pub decreases-loop-piece : goal.decreases-loop-piece
decreases-loop-piece l = length l.rest
