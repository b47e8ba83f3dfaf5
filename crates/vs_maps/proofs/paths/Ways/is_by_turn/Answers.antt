use Rattle.std.proofs.Common.{Bool, ◌&&◌, map, sym, ◌∙◌, ap, arith}
use Rattle.vs_process.specs.Stops.{stop_view, stop_at, stop_statement}
use Rattle.vs_maps.specs.Reaches.{statement_turns}
use Rattle.vs_maps.proofs.Reading.{turn_here}
use Rattle.vs_maps.proofs.paths.Ways.is_by_turn.Goals as goal

pub returns : goal.returns
returns c =
    let stops = map stop_view c.args.self.now.stops.now in
    let place = c.args.place in
    sym (turn_here stops c.args.self.now.turns.now place c.args.self.now.turns_are (omega (arith, c.if-place-eq0.false)) (omega (arith, c.if-place-self.false)))
    ∙ ap (λ (b : Bool). b && statement_turns (stop_statement (stop_at stops place))) (sym c.if-not-is_turned.false ∙ c.is_turned.ensures)
