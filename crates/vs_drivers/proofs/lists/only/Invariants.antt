use Rattle.std.proofs.Common.{◌≡◌, ◌<◌, ℕ, get_or, length}
use Rattle.vs_drivers.proofs.lists.only.Given as goal

abbrev pub invariant-loop-x : goal.invariant-loop-x
invariant-loop-x l = record { some : 0 < length l.xs; first_is : l.first ≡ get_or l.xs 0 0; same : (k : ℕ) → k < l.x-index → get_or l.xs k 0 ≡ get_or l.xs 0 0 }
