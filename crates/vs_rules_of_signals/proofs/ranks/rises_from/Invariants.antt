use Rattle.std.proofs.Common.{ℕ, ◌<◌, ◌≤◌, get_or}
use Rattle.vs_rules_of_signals.specs.Ranks.{rank_of}
use Rattle.vs_rules_of_signals.proofs.ranks.rises_from.Given as goal

abbrev pub invariant-loop-next : goal.invariant-loop-next
invariant-loop-next l = (k : ℕ) → k < l.next-index → rank_of l.ranks l.place ≤ rank_of l.ranks (get_or l.next-items k 0)
