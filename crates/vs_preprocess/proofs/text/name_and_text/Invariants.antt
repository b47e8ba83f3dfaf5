use Rattle.std.proofs.Common.{◌≤◌, length}
use Rattle.vs_preprocess.proofs.text.name_and_text.Given as goal

abbrev pub invariant-loop-rest : goal.invariant-loop-rest
invariant-loop-rest l = length l.rest ≤ length l.word

abbrev pub decreases-loop-rest : goal.decreases-loop-rest
decreases-loop-rest l = length l.rest
