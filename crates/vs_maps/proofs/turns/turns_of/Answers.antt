use Rattle.std.proofs.Common.{◌∙◌, ap, map}
use Rattle.std.proofs.lemmas.List.{take_all}
use Rattle.vs_process.specs.Stops.{stop_view}
use Rattle.vs_maps.specs.Reaches.{stop_turns}
use Rattle.vs_maps.proofs.Reading.{marks_told}
use Rattle.vs_maps.proofs.turns.turns_of.Goals as goal

pub returns : goal.returns
returns c =
    let stops = c.args.stops.now in
    c.loop-stop.invariant ∙ ap (map (λ s. stop_turns (stop_view s))) (take_all c.loop-stop.stop-index stops c.loop-stop-test.false) ∙ marks_told stops
