use Rattle.std.proofs.Common.{◌≡◌, ℕ, ◌<◌, ◌≤◌, get_or}
use Rattle.vs_logic4.specs.Changes.{change}
use Rattle.vs_logic4.proofs.changes.changed_rest.Given as goal

abbrev pub invariant-loop-i : goal.invariant-loop-i
invariant-loop-i l = ((k : ℕ) → k < l.from → get_or l.out k 0 ≡ get_or l.initial.out k 0) × ((k : ℕ) → l.from ≤ k → k < l.i → get_or l.out k 0 ≡ change (get_or l.old k 0) (get_or l.new k 0))
