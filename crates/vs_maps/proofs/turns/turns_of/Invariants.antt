use Rattle.std.proofs.Common.{◌≡◌, map, take}
use Rattle.vs_process.specs.Stops.{stop_view}
use Rattle.vs_maps.specs.Reaches.{stop_turns}
use Rattle.vs_maps.proofs.turns.turns_of.Given as goal

abbrev pub invariant-loop-stop : goal.invariant-loop-stop
invariant-loop-stop l = l.turns.items ≡ map (λ s. stop_turns (stop_view s)) (take l.stop-index l.stops)
