use Rattle.vs_cert_blocks.proofs.CornerLemmas.{PlacesSoFar}
use Rattle.vs_cert_blocks.proofs.corners.alike_until.Given as goal

abbrev pub invariant-loop-range : goal.invariant-loop-range
invariant-loop-range l = PlacesSoFar l.ranges l.range-index l.signal l.word l.width l.place l.end
