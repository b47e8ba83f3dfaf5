use Rattle.std.proofs.Common.{take}
use Rattle.vs_graph.specs.Reached.{AreMarkedNow}
use Rattle.vs_graph.proofs.walks.mark_all.Given as goal

abbrev pub invariant-loop-node : goal.invariant-loop-node
invariant-loop-node l = AreMarkedNow (take l.node-index l.nodes) l.fn.marks.items l.fn.todo.items l.marks.items l.todo.items
