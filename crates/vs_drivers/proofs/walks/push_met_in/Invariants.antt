use Rattle.std.proofs.Common.{◌≡◌, ◌++◌, drop}
use Rattle.vs_drivers.specs.Walks.{met_in}
use Rattle.vs_drivers.proofs.walks.push_met_in.Given as goal

abbrev pub invariant-loop-written : goal.invariant-loop-written
invariant-loop-written l = l.out.items ++ met_in l.signals (drop l.written-index l.row) l.range ≡ l.fn.out.items ++ met_in l.signals l.row l.range
