use Rattle.vs_graph.specs.Clear.{AreClear}
use Rattle.vs_maps.specs.Reaches.{places}
use Rattle.vs_maps.specs.Walks.{IsBefore}
use Rattle.vs_graph.proofs.RowLemmas.{AreSoFar}
use Rattle.vs_maps.proofs.walks.rows_before.Given as goal

abbrev pub invariant-loop-q : goal.invariant-loop-q
invariant-loop-q g l = record {
  rows : AreSoFar (IsBefore l.tables l.along (g.R.Rule.keeps l.rule)) l.q l.count l.table;
  clear : AreClear (places l.tables) l.marks.items;
}
