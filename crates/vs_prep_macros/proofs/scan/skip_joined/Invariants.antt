use Rattle.std.proofs.Common.{◌≡◌, ◌≤◌, length, false, []}
use Rattle.vs_prep_macros.specs.Parts.{parts_of}
use Rattle.vs_prep_macros.specs.Folds.{over}
use Rattle.vs_prep_macros.specs.Spaces.{joined}
use Rattle.vs_prep_macros.proofs.scan.skip_joined.Given as goal

abbrev pub invariant-loop-piece : goal.invariant-loop-piece
invariant-loop-piece l = (over joined (λ joins. []) l.joins (parts_of l.rest) ≡ over joined (λ joins. []) false (parts_of l.bytes)) × (length l.rest ≤ length l.bytes)

abbrev pub decreases-loop-piece : goal.decreases-loop-piece
decreases-loop-piece l = length l.rest
