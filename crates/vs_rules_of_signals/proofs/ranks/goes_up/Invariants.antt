use Rattle.std.proofs.Common.{ℕ, ◌<◌, get_or}
use Rattle.vs_rules_of_signals.specs.Ranks.{IsBelow}
use Rattle.vs_rules_of_signals.proofs.ranks.goes_up.Given as goal

abbrev pub invariant-loop-next : goal.invariant-loop-next
invariant-loop-next l = (k : ℕ) → k < l.next-index → IsBelow l.ranks l.place (get_or l.next-items k 0)
