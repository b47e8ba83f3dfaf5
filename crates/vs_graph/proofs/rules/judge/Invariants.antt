use Rattle.std.proofs.Common.{ℕ, ◌<◌}
use Rattle.vs_graph.proofs.rules.judge.Given as goal

abbrev pub invariant-loop-k : goal.invariant-loop-k
invariant-loop-k g l = (k : ℕ) → k < l.k → (i : ℕ) → i < g.B.Book.things l.book → g.B.Book.keeps l.book k i
