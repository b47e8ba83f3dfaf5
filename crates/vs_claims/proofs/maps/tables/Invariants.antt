use Rattle.std.proofs.Common.{◌≡◌, map, take}
use Rattle.vs_maps.specs.Reaches.{chart_of}
use Rattle.vs_claims.proofs.maps.tables.Given as goal

abbrev pub invariant-loop-text : goal.invariant-loop-text
invariant-loop-text l = l.tables.items ≡ map chart_of (take l.text-index l.texts)
