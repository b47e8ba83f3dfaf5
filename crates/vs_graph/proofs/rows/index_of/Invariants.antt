use Rattle.vs_graph.proofs.RowLemmas.{AreSoFar}
use Rattle.vs_graph.proofs.rows.index_of.Given as goal

abbrev pub invariant-loop-i : goal.invariant-loop-i
invariant-loop-i g l = AreSoFar (g.F.Family.has l.family) l.i l.n l.table
