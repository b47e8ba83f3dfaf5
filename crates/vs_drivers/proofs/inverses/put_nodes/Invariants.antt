use Rattle.std.proofs.Common.{◌≡◌, ◌++◌, map, take}
use Rattle.vs_drivers.specs.Inverses.{node}
use Rattle.vs_drivers.proofs.inverses.put_nodes.Given as goal

abbrev pub invariant-loop-v : goal.invariant-loop-v
invariant-loop-v l = l.out.items ≡ l.fn.out.items ++ map (node l.count l.odd) (take l.v-index l.signals)
