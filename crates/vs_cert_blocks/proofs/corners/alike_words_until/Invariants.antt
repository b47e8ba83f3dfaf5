use Rattle.vs_cert_blocks.proofs.CornerLemmas.{WordsSoFar}
use Rattle.vs_cert_blocks.proofs.corners.alike_words_until.Given as goal

abbrev pub invariant-loop-range : goal.invariant-loop-range
invariant-loop-range l = WordsSoFar l.ranges l.range-index l.signal l.count l.word l.end
