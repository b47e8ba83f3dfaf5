use Rattle.std.proofs.Common.{◌≡◌, ◌≤◌, length, false}
use Rattle.vs_prep_macros.specs.Pieces.{after_quote}
use Rattle.vs_prep_macros.proofs.runs.after_string.Given as goal

abbrev pub invariant-loop-rest : goal.invariant-loop-rest
invariant-loop-rest l = (after_quote l.escaped l.rest ≡ after_quote false l.bytes) × (length l.rest ≤ length l.bytes)

abbrev pub decreases-loop-rest : goal.decreases-loop-rest
decreases-loop-rest l = length l.rest
