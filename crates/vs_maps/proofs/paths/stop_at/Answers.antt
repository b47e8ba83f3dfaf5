use Rattle.std.proofs.Common.{sym, arith}
use Rattle.vs_maps.proofs.Reading.{stop_past, stop_here}
use Rattle.vs_maps.proofs.paths.stop_at.Goals as goal

pub returns-then-place-stops : goal.returns-then-place-stops
returns-then-place-stops c = sym (stop_past c.args.stops.now c.args.place (omega (arith, c.if-place-stops.true)))

pub returns : goal.returns
returns c = sym (stop_here c.args.stops.now c.args.place c.index-stops-place.result (omega (arith, c.if-place-eq0.false)) (omega (arith, c.if-place-stops.false)) c.index-stops-place.is)
