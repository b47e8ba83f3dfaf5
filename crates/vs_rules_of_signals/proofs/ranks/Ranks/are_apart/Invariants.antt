use Rattle.std.proofs.Common.{ℕ, ◌<◌}
use Rattle.vs_rules_of_signals.specs.Ranks.{ApartAt}
use Rattle.vs_rules_of_signals.proofs.ranks.Ranks.are_apart.Given as goal

abbrev pub invariant-loop-k : goal.invariant-loop-k
invariant-loop-k l = (i : ℕ) → i < l.k → ApartAt l.tables l.self l.places i
