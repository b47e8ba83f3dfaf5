use Rattle.std.proofs.Common.{◌≤◌, ◌+◌, ℕ, List, length, cond}
use Rattle.vs_prep_macros.specs.Formals.{Numbers}
use Rattle.vs_prep_macros.proofs.FormalsRead.{SoFar}
use Rattle.vs_prep_macros.proofs.formals.read_formals.Given as goal

abbrev pub invariant-loop-more : goal.invariant-loop-more
invariant-loop-more l =
    ((names : List (List ℕ)) × Numbers l.formals.entries (λ k. k.items) names × SoFar l.bytes l.more names l.rest) × (length l.rest ≤ length l.bytes)

abbrev pub decreases-loop-more : goal.decreases-loop-more
decreases-loop-more l = length l.rest + cond l.more 1 0
