use Rattle.std.proofs.Common.{◌+◌, false, length}
use Rattle.vs_graph.specs.Owed.{owed}
use Rattle.vs_claims.specs.vs_maps.specs.declared.along.Along.TheVariants.{ZeroTime}
use Rattle.vs_claims.specs.vs_maps.specs.Reaches.{stops_along}
use Rattle.vs_rules_of_signals.proofs.ranks.places_left.Given as goal

abbrev pub decreases-loop-visit : goal.decreases-loop-visit
decreases-loop-visit l = length l.todo.items + owed (stops_along (ZeroTime false) l.tables.stops) 0 l.entered.items
