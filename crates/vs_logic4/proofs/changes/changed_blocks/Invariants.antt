use Rattle.std.proofs.Common.{◌≡◌, ℕ, ◌<◌, ◌≤◌, ◌-◌, length, get_or}
use Rattle.vs_logic4.specs.Changes.{change}
use Rattle.vs_logic4.proofs.changes.changed_blocks.Given as goal

abbrev pub invariant-loop-at : goal.invariant-loop-at
invariant-loop-at l = (l.at ≤ length l.old) × ((k : ℕ) → k < l.at → get_or l.out k 0 ≡ change (get_or l.old k 0) (get_or l.new k 0))

abbrev pub decreases-loop-at : goal.decreases-loop-at
decreases-loop-at l = length l.old - l.at
