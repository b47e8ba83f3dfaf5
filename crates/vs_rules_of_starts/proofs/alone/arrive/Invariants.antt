use Rattle.std.proofs.Common.{◌≡◌}
use Rattle.vs_rules_of_starts.specs.Alone.{arrival}
use Rattle.vs_rules_of_starts.proofs.alone.arrive.Given as goal

abbrev pub invariant-loop-left : goal.invariant-loop-left
invariant-loop-left l = arrival l.left l.cursor l.store ≡ arrival l.most l.fn.cursor l.fn.store

abbrev pub decreases-loop-left : goal.decreases-loop-left
decreases-loop-left l = l.left
