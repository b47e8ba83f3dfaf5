use Rattle.std.proofs.Common.{◌≡◌, drop}
use Rattle.vs_graph.specs.Rows.{with_all}
use Rattle.vs_rules_of_processes.specs.Forward.{drivers_of}
use Rattle.vs_rules_of_processes.proofs.forward.put_drivers.Given as goal

abbrev pub invariant-loop-written : goal.invariant-loop-written
invariant-loop-written l = with_all (drivers_of (drop l.written-index l.row)) l.number l.table ≡ with_all (drivers_of l.row) l.number l.fn.table
