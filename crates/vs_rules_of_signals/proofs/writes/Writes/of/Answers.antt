use Rattle.vs_rules_of_signals.proofs.writes.Writes.of.Goals as goal

pub invariant_of-result : goal.invariant_of-result
invariant_of-result c = record { own = c.in_ok-places.ensures; ranked = c.in_ok-ranks.ensures }
