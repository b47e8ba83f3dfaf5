use Rattle.std.proofs.Common.{◌≡◌, ◌++◌, map, take}
use Rattle.vs_process.specs.Ways.{way_on}
use Rattle.vs_process.specs.Stops.{tos_in}
use Rattle.vs_process.proofs.stops.push_starts.Given as goal

abbrev pub invariant-loop-start : goal.invariant-loop-start
invariant-loop-start l = l.tos.items ≡ l.fn.tos.items ++ tos_in l.n (map way_on (take l.start-index l.start-items))
