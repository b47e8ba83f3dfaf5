use Rattle.std.proofs.Common.{◌≡◌, ◌+◌, length}
use Rattle.vs_graph.specs.Reached.{unmarked}
use Rattle.vs_graph.proofs.Spread.{Spread}
use Rattle.vs_graph.proofs.walks.reach.Given as goal

abbrev pub invariant-loop-node : goal.invariant-loop-node
invariant-loop-node g l = record {
  long : length l.marks.items ≡ g.G.Graph.count l.graph;
  spread : Spread (g.G.Graph.nexts l.graph) l.seeds l.marks.items l.todo.items;
}

abbrev pub decreases-loop-node : goal.decreases-loop-node
decreases-loop-node g l = length l.todo.items + unmarked l.marks.items
