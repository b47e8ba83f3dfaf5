use Rattle.std.proofs.Common.{ℕ, ◌<◌, ◌≤◌, get_or}
use Rattle.vs_cert_blocks.proofs.early.least_of.Given as goal

abbrev pub invariant-loop-x : goal.invariant-loop-x
invariant-loop-x l = (l.least ≤ l.start) × ((k : ℕ) → k < l.x-index → l.least ≤ get_or l.xs k 0)
