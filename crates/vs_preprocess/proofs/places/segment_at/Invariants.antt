use Rattle.std.proofs.Common.{◌-◌}
use Rattle.vs_preprocess.proofs.Segments.{Between}
use Rattle.vs_preprocess.proofs.places.segment_at.Given as goal

abbrev pub invariant-loop-low : goal.invariant-loop-low
invariant-loop-low l = Between l.offset l.segments l.low l.high

abbrev pub decreases-loop-low : goal.decreases-loop-low
decreases-loop-low l = l.high - l.low
