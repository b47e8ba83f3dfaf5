use Rattle.std.proofs.Common.{◌≤◌, length}
use Rattle.vs_prep_macros.proofs.BodiesRead.{SoFar}
use Rattle.vs_prep_macros.proofs.body.read_body.Given as goal

abbrev pub invariant-loop-body : goal.invariant-loop-body
invariant-loop-body l = SoFar l.bytes l.body.items l.rest × (length l.rest ≤ length l.bytes)

abbrev pub decreases-loop-body : goal.decreases-loop-body
decreases-loop-body l = length l.rest
