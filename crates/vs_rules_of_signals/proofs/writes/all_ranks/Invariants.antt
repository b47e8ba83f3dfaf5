use Rattle.std.proofs.Common.{◌≡◌, ℕ, Some, length, slice_get}
use Rattle.vs_rules_of_signals.specs.declared.ranks.Ranks.{Ranks}
use Rattle.vs_rules_of_signals.specs.Ranks.{AreRanksOf}
use Rattle.vs_rules_of_signals.proofs.writes.all_ranks.Given as goal

abbrev pub invariant-loop-i : goal.invariant-loop-i
invariant-loop-i l = (length l.ranks.items ≡ l.i) × ((k : ℕ) (x : Ranks) → slice_get l.ranks.items k ≡ Some x → AreRanksOf l.facts k x)
