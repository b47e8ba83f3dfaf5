use Rattle.std.proofs.Common.{◌≡◌, drop}
use Rattle.vs_graph.specs.Rows.{with_all}
use Rattle.vs_rules_of_processes.specs.Forward.{signals_of}
use Rattle.vs_rules_of_processes.proofs.forward.put_signals.Given as goal

abbrev pub invariant-loop-range : goal.invariant-loop-range
invariant-loop-range l = with_all (signals_of (drop l.range-index l.ranges)) l.number l.table ≡ with_all (signals_of l.ranges) l.number l.fn.table
