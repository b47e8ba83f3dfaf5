use Rattle.std.proofs.Common.{◌≡◌, ◌+◌, length}
use Rattle.vs_rules_of_signals.proofs.ranks.put_visits.Given as goal

abbrev pub invariant-loop-place : goal.invariant-loop-place
invariant-loop-place l = length l.todo.items ≡ length l.fn.todo.items + l.place-index
