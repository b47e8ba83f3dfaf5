use Rattle.std.proofs.Common.{◌≡◌, map, take, length}
use Rattle.vs_process.specs.Stops.{stop_view, stop_of}
use Rattle.vs_process.proofs.stops.stops_of.Given as goal

abbrev pub invariant-loop-op : goal.invariant-loop-op
invariant-loop-op l = map stop_view l.stops.items ≡ map (stop_of (length l.ops)) (take l.op-index l.ops)
