use Rattle.std.proofs.Common.{◌≡◌, ◌+◌, length}
use Rattle.vs_graph.specs.Owed.{owed}
use Rattle.vs_graph.proofs.Sweep.{Sweep}
use Rattle.vs_graph.proofs.Marks.{AreFound}
use Rattle.vs_graph.proofs.local_walks.walk.Given as goal

abbrev pub invariant-loop-node : goal.invariant-loop-node
invariant-loop-node g l = record {
  long : length l.marks.items ≡ g.G.Graph.count l.graph;
  sweep : Sweep (g.G.Graph.nexts l.graph) l.seeds l.marks.items l.todo.items;
  found : AreFound l.marks.items l.found.items;
}

abbrev pub decreases-loop-node : goal.decreases-loop-node
decreases-loop-node g l = length l.todo.items + owed (g.G.Graph.nexts l.graph) 0 l.marks.items
