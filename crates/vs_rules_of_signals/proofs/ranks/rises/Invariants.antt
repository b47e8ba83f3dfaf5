use Rattle.std.proofs.Common.{ℕ, ◌<◌}
use Rattle.vs_rules_of_signals.specs.Ranks.{RisesFrom}
use Rattle.vs_rules_of_signals.proofs.ranks.rises.Given as goal

abbrev pub invariant-loop-place : goal.invariant-loop-place
invariant-loop-place l = (k : ℕ) → k < l.place → RisesFrom l.tables l.ranks k
