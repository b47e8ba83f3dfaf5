use Rattle.std.proofs.Common.{◌≡◌, length}
use Rattle.vs_rules_of_signals.specs.Ranks.{AreAllPlaces}
use Rattle.vs_rules_of_signals.proofs.writes.all_places.Given as goal

abbrev pub invariant-loop-v : goal.invariant-loop-v
invariant-loop-v l = (length l.table ≡ l.v) × AreAllPlaces l.facts l.table
