use Rattle.std.proofs.Common.{◌≡◌, drop}
use Rattle.vs_graph.specs.Rows.{with_all}
use Rattle.vs_graph.proofs.rows.Rows+usize.put_all.Given as goal

abbrev pub invariant-loop-i : goal.invariant-loop-i
invariant-loop-i l = with_all (drop l.i-index l.rows) l.number l.self ≡ with_all l.rows l.number l.fn.self
