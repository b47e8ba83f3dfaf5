use Rattle.std.proofs.Common.{◌≡◌, ℕ, false, IsTrue, length, get_or}
use Rattle.vs_graph.proofs.Marks.{AreGone}
use Rattle.vs_graph.proofs.local_walks.unmark_all.Given as goal

abbrev pub invariant-loop-node : goal.invariant-loop-node
invariant-loop-node l = record {
  long : length l.marks.items ≡ length l.fn.marks.items;
  kept : (k : ℕ) → IsTrue (get_or l.marks.items k false) → IsTrue (get_or l.fn.marks.items k false);
  gone : AreGone l.marks.items l.nodes l.node-index;
}
