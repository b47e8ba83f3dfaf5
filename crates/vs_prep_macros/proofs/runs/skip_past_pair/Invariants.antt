use Rattle.std.proofs.Common.{◌≡◌, ◌≤◌, length}
use Rattle.vs_prep_macros.specs.Pieces.{after_close}
use Rattle.vs_prep_macros.proofs.runs.skip_past_pair.Given as goal

abbrev pub invariant-loop-rest : goal.invariant-loop-rest
invariant-loop-rest l = (after_close l.first l.second l.rest ≡ after_close l.first l.second l.bytes) × (length l.rest ≤ length l.bytes)

abbrev pub decreases-loop-rest : goal.decreases-loop-rest
decreases-loop-rest l = length l.rest
