use Rattle.std.proofs.Common.{ℕ, ◌<◌}
use Rattle.vs_graph.proofs.rules.first_broken.Given as goal

abbrev pub invariant-loop-i : goal.invariant-loop-i
invariant-loop-i g l = (j : ℕ) → j < l.i → g.R.Rule.keeps l.rule j
