use Rattle.std.proofs.Common.{◌≡◌, ◌≤◌, length}
use Rattle.vs_prep_macros.specs.Parts.{parts_of}
use Rattle.vs_prep_macros.specs.Spaces.{is_space, skip_while}
use Rattle.vs_prep_macros.proofs.scan.skip_space.Given as goal

abbrev pub invariant-loop-piece : goal.invariant-loop-piece
invariant-loop-piece l = (skip_while is_space (parts_of l.rest) ≡ skip_while is_space (parts_of l.bytes)) × (length l.rest ≤ length l.bytes)

abbrev pub decreases-loop-piece : goal.decreases-loop-piece
decreases-loop-piece l = length l.rest
