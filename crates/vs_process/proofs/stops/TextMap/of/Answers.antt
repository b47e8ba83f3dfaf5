use Rattle.std.proofs.Common.{map, sym, subst}
use Rattle.vs_process.specs.Stops.{stop_view, IsText}
use Rattle.vs_process.proofs.TextMaps.{code_text}
use Rattle.vs_process.proofs.stops.TextMap.of.Goals as goal

pub returns : goal.returns
returns c = subst (IsText c.args.code.now (map stop_view c.in_ok-stops.stops.items)) (sym c.inside-start.ensures)
    (code_text c.args.code.now c.parts-start.result.0.now c.parts-start.result.1 c.parts-start.result.2 (map stop_view c.in_ok-stops.stops.items) c.parts-start.ensures c.requires
    c.in_ok-stops.ensures)
