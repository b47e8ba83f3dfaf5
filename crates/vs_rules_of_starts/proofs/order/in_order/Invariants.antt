use Rattle.vs_rules_of_starts.specs.Order.{AreAtPlaces}
use Rattle.vs_rules_of_starts.proofs.order.in_order.Given as goal

abbrev pub invariant-loop-j : goal.invariant-loop-j
invariant-loop-j l = AreAtPlaces l.facts.design l.facts.claims l.count l.j l.table.items
